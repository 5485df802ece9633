use Rattle.std.proofs.Common.{◌≡◌, [], fold, take}
use Rattle.allocator.specs.Streams.{placed}
use Rattle.allocator.specs.Order.{goes_before}
use Rattle.allocator.proofs.set.ordered.Given as goal

abbrev pub invariant-loop-stream : goal.invariant-loop-stream
invariant-loop-stream l = l.ordered.items ≡ fold (placed goes_before) [] (take l.stream-index l.streams)
