use Rattle.trendline.proofs.Few.{Fed}
use Rattle.trendline.proofs.tests.run_agrees.Given as goal

abbrev pub invariant-loop-k : goal.invariant-loop-k
invariant-loop-k g l = Fed l.trend l.k
