use Rattle.std.proofs.Common.{◌≡◌, drop}
use Rattle.run_top.specs.Words.{number_for}
use Rattle.run_top.proofs.options.number_for.Given as goal

abbrev pub invariant-loop-option : goal.invariant-loop-option
invariant-loop-option l = number_for l.name (drop l.option-index l.options) ≡ number_for l.name l.options
