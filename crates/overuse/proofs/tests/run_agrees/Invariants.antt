use Rattle.std.proofs.Common.{◌≤◌, ◌*◌, List}
use Rattle.overuse.specs.Detector.{Step}
use Rattle.overuse.specs.StateBySteps.{StandsFor, total_gap}
use Rattle.overuse.proofs.tests.run_agrees.Given as goal

abbrev pub invariant-loop-row : goal.invariant-loop-row
invariant-loop-row g l = (steps : List Step) × StandsFor l.detector steps × (total_gap steps ≤ 100000000 * l.row-index)
