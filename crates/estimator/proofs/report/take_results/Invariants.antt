use Rattle.std.proofs.Common.{ℕ, ◌≡◌, ◌++◌, List, length}
use Rattle.gcc_units.specs.Rates.{IsInBounds}
use Rattle.loss_control.specs.Rule.{Counts}
use Rattle.loss_control.specs.GatheredReports as counted
use Rattle.probe_clusters.specs.Clusters.{outcomes}
use Rattle.probe_clusters.specs.Deeds.{Deed, StandsFor, ReachedBy, takings}
use Rattle.estimator.specs.Report.{delay_taking, loss_taking}
use Rattle.estimator.proofs.report.take_results.Given as goal

-- the results that are left lead to where all of them do
abbrev pub invariant-loop-outcome : goal.invariant-loop-outcome
invariant-loop-outcome l = record {
  delay : delay_taking l.bounds l.delay (outcomes l.clusters.items) ≡ delay_taking l.bounds l.initial.delay (outcomes l.initial.clusters.items);
  loss : loss_taking l.bounds l.loss (outcomes l.clusters.items) ≡ loss_taking l.bounds l.initial.loss (outcomes l.initial.clusters.items);
  reports : (reports : List Counts) → counted.StandsFor l.initial.loss reports → counted.StandsFor l.loss reports;
  delay_in_bounds : IsInBounds l.bounds l.initial.delay.rate → IsInBounds l.bounds l.delay.rate;
  loss_in_bounds : IsInBounds l.bounds l.initial.loss.estimate → IsInBounds l.bounds l.loss.estimate;
  stands : (ds : List Deed) → StandsFor l.initial.clusters.items ds
      → (es : List Deed) × StandsFor l.clusters.items es × ((es ++ takings (outcomes l.clusters.items)) ≡ (ds ++ takings (outcomes l.initial.clusters.items)));
  reached : (sends credits : ℕ) → ReachedBy sends credits l.initial.clusters.items → ReachedBy sends credits l.clusters.items;
  spare : l.clusters.spare ≡ l.initial.clusters.spare;
}

abbrev pub decreases-loop-outcome : goal.decreases-loop-outcome
decreases-loop-outcome l = length (outcomes l.clusters.items)
