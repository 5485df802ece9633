use Rattle.std.proofs.Common.{List, ◌++◌, take}
use Rattle.gcc_units.specs.declared.shared_types.Credit.{Credit}
use Rattle.run_top.specs.Compared.{IsSoFar}
use Rattle.run_top.proofs.comparing.Comparing.take_all.Given as goal

-- for whatever credits came before
abbrev pub invariant-loop-credit : goal.invariant-loop-credit
invariant-loop-credit l = (before : List Credit) → IsSoFar l.initial.self before → IsSoFar l.self (before ++ take l.credit-index l.received)
