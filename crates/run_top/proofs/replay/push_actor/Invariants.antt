use Rattle.std.proofs.Common.{◌≡◌, ◌++◌, take}
use Rattle.run_top.specs.Replay.{of_actor}
use Rattle.run_top.proofs.replay.push_actor.Given as goal

abbrev pub invariant-loop-glance : goal.invariant-loop-glance
invariant-loop-glance l = l.list.items ≡ l.fn.list.items ++ of_actor (take l.glance-index l.seen) l.actor
