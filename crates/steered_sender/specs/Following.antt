-- The sends of a pace, as clusters follow them.
use Rattle.std.specs.Prelude.{◌≡◌, ℕ, Option, Some, List, [], ◌∷◌}
use Rattle.probe_clusters.specs.declared.cluster.Cluster.{Cluster}
use Rattle.probe_clusters.specs.Clusters.{due}
use Rattle.pacer.specs.declared.sent.Sent.{Sent}
use Rattle.pacer.specs.declared.sent.Kind.{Kind}
use Rattle.pacer.specs.declared.sent.Kind.TheVariants as kind
use Rattle.pacer.specs.Pace.{clusters_after}

-- a packet that is sent for a cluster is sent for the one that is due
abbrev pub IsForDue : Option ℕ → Kind → Type 0
IsForDue o kind.Audio = Unit {0}
IsForDue o kind.Media = Unit {0}
IsForDue o (kind.Probe id) = o ≡ Some id
IsForDue o kind.Padding = Unit {0}

-- each of them, one after another
abbrev pub AreForDue : ℕ → List Cluster → List Sent → Type 0
AreForDue moment cs [] = Unit {0}
AreForDue moment cs (r ∷ rs) = IsForDue (due cs moment) r.kind × AreForDue moment (clusters_after moment cs r) rs
