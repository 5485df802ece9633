use Rattle.std.proofs.Common.{◌≡◌}
use Rattle.std.specs.List.{flat_map, range_with_len}
use Rattle.run_top.specs.Replay.{of_actor}
use Rattle.run_top.proofs.replay.by_actor.Given as goal

abbrev pub invariant-loop-actor : goal.invariant-loop-actor
invariant-loop-actor l = l.list.items ≡ flat_map (of_actor l.seen.items) (range_with_len 0 l.actor)
