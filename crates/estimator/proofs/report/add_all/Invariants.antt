use Rattle.std.proofs.Common.{◌++◌, List, map, take}
use Rattle.acked_rate.specs.Received.{Add}
use Rattle.acked_rate.specs.Kept.{StandsFor}
use Rattle.estimator.specs.Report.{add_of}
use Rattle.estimator.proofs.report.add_all.Given as goal

-- the packets so far were added
abbrev pub invariant-loop-credit : goal.invariant-loop-credit
invariant-loop-credit l = (adds : List Add) → StandsFor l.initial.window adds → StandsFor l.window (adds ++ map add_of (take l.credit-index l.received))
