use Rattle.std.proofs.Common.{ℕ, ◌+◌, ◌++◌, List, take, drop}
use Rattle.gcc_units.specs.declared.limits.TheConstants.{MOST_PACKETS}
use Rattle.probe_clusters.specs.Deeds.{Deed, StandsFor, ReachedBy}
use Rattle.pacer.specs.Course.{probes_of}
use Rattle.steered_sender.specs.Following.{AreForDue}
use Rattle.steered_sender.proofs.clustering.follow_all.Given as goal

-- the packets so far were counted, and those that are left are each for the cluster that is due
abbrev pub invariant-loop-sent : goal.invariant-loop-sent
invariant-loop-sent l = record {
  due : AreForDue l.moment l.clusters.items (drop l.sent-index l.records);
  stands : (ds : List Deed) → StandsFor l.initial.clusters.items ds → StandsFor l.clusters.items (ds ++ probes_of l.moment (take l.sent-index l.records));
  reached : (sends : ℕ) → ReachedBy sends MOST_PACKETS l.initial.clusters.items → ReachedBy (sends + l.sent-index) MOST_PACKETS l.clusters.items;
}
