use Rattle.std.proofs.Common.{◌<◌, length}
use Rattle.probe_clusters.specs.Deeds.{ReachedBy}
use Rattle.probe_clusters.proofs.tests.credit.Given as goal

abbrev pub invariant-loop-number : goal.invariant-loop-number
invariant-loop-number l = ReachedBy 100 l.number l.clusters.items × (0 < length l.clusters.items)
