use Rattle.std.proofs.Common.{◌≡◌, List, length}
use Rattle.gcc_units.specs.declared.shared_types.Sample.{Sample}
use Rattle.arrival_filter.specs.StateBySamples.{StandsFor}
use Rattle.arrival_filter.proofs.tests.run_agrees.Given as goal

abbrev pub invariant-loop-row : goal.invariant-loop-row
invariant-loop-row g l = (samples : List Sample) × StandsFor l.filter samples × (length samples ≡ l.row-index)
