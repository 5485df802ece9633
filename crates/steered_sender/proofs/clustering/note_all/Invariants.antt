use Rattle.std.proofs.Common.{ℕ, ◌≡◌, ◌+◌, ◌++◌, List, map, take, length}
use Rattle.probe_clusters.specs.Deeds.{Deed, Note, StandsFor, ReachedBy}
use Rattle.steered_sender.proofs.clustering.note_all.Given as goal

-- the credits so far were noted
abbrev pub invariant-loop-credit : goal.invariant-loop-credit
invariant-loop-credit l = record {
  stands : (ds : List Deed) → StandsFor l.initial.clusters.items ds → StandsFor l.clusters.items (ds ++ map Note (take l.credit-index l.received));
  reached : (sends credits : ℕ) → ReachedBy sends credits l.initial.clusters.items → ReachedBy sends (credits + l.credit-index) l.clusters.items;
  same : length l.clusters.items ≡ length l.initial.clusters.items;
}
