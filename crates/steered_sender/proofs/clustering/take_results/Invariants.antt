use Rattle.std.proofs.Common.{◌≡◌, ◌+◌, ◌≤◌, ◌++◌, List, All, length}
use Rattle.level_control.specs.Probing.{IsProbed}
use Rattle.probe_clusters.specs.Clusters.{outcomes}
use Rattle.probe_clusters.specs.Deeds.{Deed, StandsFor, takings}
use Rattle.steered_sender.specs.Measures.{probed_of}
use Rattle.steered_sender.proofs.clustering.take_results.Given as goal

-- the results so far and those that are left are all of them, and there is room for what is left
abbrev pub invariant-loop-outcome : goal.invariant-loop-outcome
invariant-loop-outcome l = record {
  value : l.results.items ++ probed_of l.planned (outcomes l.clusters.items) ≡ probed_of l.planned (outcomes l.initial.clusters.items);
  room : length (outcomes l.clusters.items) ≤ l.results.spare;
  ranges : All IsProbed l.results.items;
  stands : (ds : List Deed) → StandsFor l.initial.clusters.items ds
      → (es : List Deed) × StandsFor l.clusters.items es × ((es ++ takings (outcomes l.clusters.items)) ≡ (ds ++ takings (outcomes l.initial.clusters.items)));
}

abbrev pub decreases-loop-outcome : goal.decreases-loop-outcome
decreases-loop-outcome l = length (outcomes l.clusters.items)
