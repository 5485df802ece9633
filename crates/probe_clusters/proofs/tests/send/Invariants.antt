use Rattle.std.proofs.Common.{◌≡◌, length}
use Rattle.probe_clusters.specs.Deeds.{ReachedBy}
use Rattle.probe_clusters.proofs.tests.send.Given as goal

abbrev pub invariant-loop-moment : goal.invariant-loop-moment
invariant-loop-moment g l = ReachedBy l.moment-index 0 l.clusters.items × (length l.clusters.items ≡ length l.initial.clusters.items)
