use Rattle.std.proofs.Common.{◌≡◌, map, All}
use Rattle.std.specs.List.{flat_map}
use Rattle.run_top.specs.declared.workers.Stop.TheVariants as stop
use Rattle.run_top.specs.Racing.{IsDone, AnyFull, seat_of, taken_by}
use Rattle.run_top.proofs.racing.gather.Given as goal

abbrev pub invariant-loop-worker : goal.invariant-loop-worker
invariant-loop-worker l = record {
  seats : l.gathered.seats.items ≡ map seat_of l.yielded;
  glances : l.gathered.glances.items ≡ flat_map taken_by l.yielded;
  done : l.gathered.stop ≡ stop.No → All IsDone l.yielded;
  full : l.gathered.stop ≡ stop.Full → AnyFull l.yielded;
}
