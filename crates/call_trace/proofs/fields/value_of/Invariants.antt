use Rattle.std.proofs.Common.{◌≡◌, drop}
use Rattle.call_trace.specs.Fields.{value_after}
use Rattle.call_trace.proofs.fields.value_of.Given as goal

abbrev pub invariant-loop-digit : goal.invariant-loop-digit
invariant-loop-digit l = value_after l.value (drop l.digit-index l.digits) ≡ value_after 0 l.digits
