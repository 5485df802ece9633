use Rattle.std.proofs.Common.{◌≡◌, fold, filter, take}
use Rattle.allocator.specs.Streams.{placed, has_lesser_id, stays}
use Rattle.allocator.proofs.set.changed_list.Given as goal

abbrev pub invariant-loop-stream : goal.invariant-loop-stream
invariant-loop-stream l =
    l.after.items ≡ fold (placed has_lesser_id) (filter (stays l.set l.removed) l.streams) (take l.stream-index l.set)
