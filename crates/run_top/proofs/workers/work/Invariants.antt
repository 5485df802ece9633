use Rattle.std.proofs.Common.{◌≡◌, ◌≤◌, take}
use Rattle.run_top.specs.Racing.{Worked}
use Rattle.run_top.proofs.workers.work.Given as goal

abbrev pub invariant-loop-line : goal.invariant-loop-line
invariant-loop-line g l = record {
  same : (l.worker.seat.of ≡ l.fn.worker.seat.of) × (l.worker.seat.number ≡ l.fn.worker.seat.number);
  actor : l.worker.actor ≡ l.fn.worker.actor;
  count : l.k ≤ l.line-index;
  worked : Worked (take l.line-index l.lines) l.worker;
}
