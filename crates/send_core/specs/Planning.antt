-- Room for clusters that are planned one after another.
use Rattle.std.specs.Prelude.{◌≡◌, ℕ, ◌+◌, ◌≤◌, List, ◌++◌, length, count_by, map, All}
use Rattle.gcc_units.specs.declared.limits.TheConstants.{MOST_CLUSTERS}
use Rattle.gcc_units.specs.Listed.{Listed}
use Rattle.gcc_units.specs.Rates.{IsRate}
use Rattle.probe_clusters.specs.declared.cluster.Cluster.{Cluster}
use Rattle.probe_clusters.specs.Cluster.{planned, waits}

-- there is room for clusters of these rates, and no more than may would wait
pub record CanPlan (cs : Listed Cluster) (rates : List ℕ) : Type 0 where
  pub rates_are : All IsRate rates
  pub room : length rates ≤ cs.spare
  pub few : count_by waits cs.items + length rates ≤ MOST_CLUSTERS

-- they were planned
pub record IsAfterPlans (before : Listed Cluster) (rates : List ℕ) (after : Listed Cluster) : Type 0 where
  pub items : after.items ≡ before.items ++ map planned rates
  pub spare : before.spare ≤ after.spare + length rates
