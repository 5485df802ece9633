use Rattle.std.proofs.Common.{◌++◌, sym, ◌∙◌, ap}
use Rattle.run_top.specs.Replay.{of_actor}
use Rattle.run_top.proofs.Serving.{flat_map-range}
use Rattle.run_top.proofs.replay.by_actor.Goals as goal

pub loop-actor-preserved : goal.loop-actor-preserved
loop-actor-preserved c =
    c.in_ok-push_actor.ensures
    ∙ (ap (λ gs. c.loop-actor.list.items ++ of_actor gs c.loop-actor.actor) c.as_slice.ensures.items
    ∙ (ap (λ xs. xs ++ of_actor c.args.seen.now.items c.loop-actor.actor) c.loop-actor.invariant
    ∙ sym (flat_map-range (of_actor c.args.seen.now.items) c.loop-actor.actor)))
