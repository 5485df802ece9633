use Rattle.std.proofs.Common.{◌≡◌, ◌+◌, map, take}
use Rattle.allocator.specs.Shares.{share_in, spread}
use Rattle.allocator.proofs.shares.allocate.Given as goal

abbrev pub invariant-loop-stream : goal.invariant-loop-stream
invariant-loop-stream l = record {
  items : l.out.items ≡ map (share_in (spread l.standing.level l.standing.left l.served.streams.items)) (take l.stream-index l.by_id);
  spare : l.out.spare + l.stream-index ≡ l.fn.out.spare;
}
