use Rattle.std.proofs.Common.{◌≡◌, take}
use Rattle.std.specs.String.{string_bytes}
use Rattle.resending.specs.NackText.{nack_lines}
use Rattle.resending.proofs.text.nack_lines.Given as goal

abbrev pub invariant-loop-k : goal.invariant-loop-k
invariant-loop-k l = string_bytes l.text ≡ nack_lines (take l.k l.nacks.items)
