use Rattle.std.proofs.Common.{◌≡◌, length, map, All}
use Rattle.std.specs.List.{range_with_len}
use Rattle.run_top.specs.Racing.{IsFresh, seat_of, actor_of}
use Rattle.run_top.proofs.racing.seated.Given as goal

abbrev pub invariant-loop-seat : goal.invariant-loop-seat
invariant-loop-seat l = record {
  seats : map seat_of l.workers.items ≡ l.yielded;
  actors : map actor_of l.workers.items ≡ range_with_len 0 (length l.yielded);
  fresh : All IsFresh l.workers.items;
  count : l.actor ≡ length l.yielded;
}
