use Rattle.std.proofs.Common.{ℕ, ◌≡◌, ◌+◌, ◌++◌, List, map, take, length}
use Rattle.probe_clusters.specs.Deeds.{Deed, Note, StandsFor, ReachedBy}
use Rattle.estimator.proofs.report.note_all.Given as goal

-- the credits so far were noted
abbrev pub invariant-loop-credit : goal.invariant-loop-credit
invariant-loop-credit l = record {
  stands : (ds : List Deed) → StandsFor l.initial.clusters.items ds → StandsFor l.clusters.items (ds ++ map Note (take l.credit-index l.received));
  reached : (sends credits : ℕ) → ReachedBy sends credits l.initial.clusters.items → ReachedBy sends (credits + l.credit-index) l.clusters.items;
  spare : l.clusters.spare ≡ l.initial.clusters.spare;
  same : length l.clusters.items ≡ length l.initial.clusters.items;
}
