use Rattle.std.proofs.Common.{◌≡◌, drop}
use Rattle.run_top.specs.Words.{names, option_among, option_at}
use Rattle.run_top.proofs.options.option.Given as goal

abbrev pub invariant-loop-name : goal.invariant-loop-name
invariant-loop-name l = option_among (drop l.name-index names) l.words ≡ option_at l.words
