use Rattle.run_top.proofs.Rates.{Estimated}
use Rattle.run_top.proofs.told.estimates.Given as goal

abbrev pub invariant-loop-k : goal.invariant-loop-k
invariant-loop-k l = Estimated l.journal.items l.k l.told.0 l.told.1
