use Rattle.std.proofs.Common.{ℕ, ◌≡◌, ◌+◌, List, drop, sym, subst, arith}
use Rattle.std.proofs.lemmas.List.{append-nil}
use Rattle.gcc_units.specs.declared.limits.TheConstants.{MOST_PACKETS}
use Rattle.probe_clusters.specs.declared.cluster.Cluster.{Cluster}
use Rattle.probe_clusters.specs.Deeds.{StandsFor, ReachedBy}
use Rattle.steered_sender.specs.Following.{AreForDue}
use Rattle.steered_sender.proofs.Noting.{due-here, reached-all, follows-more, follows-all}
use Rattle.steered_sender.proofs.clustering.follow_all.Goals as goal

pub follow_one-requires-clause-due : goal.follow_one-requires-clause-due
follow_one-requires-clause-due c =
    (due-here c.args.moment c.loop-sent.clusters.items c.args.records.now c.loop-sent.sent-index _ c.loop-sent-test.true c.loop-sent.invariant.due).0

pub follow_one-requires-clause-within : goal.follow_one-requires-clause-within
follow_one-requires-clause-within c =
    reached-all (c.requires.room.sends + c.loop-sent.sent-index) c.loop-sent.clusters.items
    (c.loop-sent.invariant.reached c.requires.room.sends c.requires.room.reached) (omega (arith, c.requires.room.room, c.loop-sent-test.true))

pub loop-sent-init : goal.loop-sent-init
loop-sent-init c = record {
  due = c.requires.due;
  stands = λ ds s. subst (StandsFor c.args.clusters.now.items) (sym (append-nil ds)) s;
  reached = λ sends r. let same : sends + 0 ≡ sends = omega arith in rw same r;
}

pub loop-sent-preserved : goal.loop-sent-preserved
loop-sent-preserved c =
    let so_far = c.loop-sent.invariant in
    let here = due-here c.args.moment c.loop-sent.clusters.items c.args.records.now c.loop-sent.sent-index _ c.loop-sent-test.true so_far.due in
    record {
      due = subst (λ (cs : List Cluster). AreForDue c.args.moment cs (drop (c.loop-sent.sent-index + 1) c.args.records.now)) (sym c.follow_one.ensures.items) here.1;
      stands = λ ds s.
          subst (StandsFor c.follow_one.new.clusters.items) (follows-more c.args.moment ds c.args.records.now c.loop-sent.sent-index _ c.loop-sent-test.true)
          (c.follow_one.ensures.stands _ (so_far.stands ds s));
      reached = λ sends r.
          let sum : sends + c.loop-sent.sent-index + 1 ≡ sends + (c.loop-sent.sent-index + 1) = omega arith in
          subst (λ (n : ℕ). ReachedBy n MOST_PACKETS c.follow_one.new.clusters.items) sum (c.follow_one.ensures.reached _ (so_far.reached sends r));
    }

pub returns : goal.returns
returns c = λ ds s.
    subst (StandsFor c.loop-sent.clusters.items) (follows-all c.args.moment ds c.args.records.now c.loop-sent.sent-index c.loop-sent-test.false) (c.loop-sent.invariant.stands ds s)
