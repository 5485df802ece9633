use Rattle.std.proofs.Common.{◌≡◌}
use Rattle.sender_tests.proofs.shared.pace_often.Given as goal

abbrev pub invariant-loop-k : goal.invariant-loop-k
invariant-loop-k g l = record {
  of : l.seat.of ≡ l.fn.seat.of;
  number : l.seat.number ≡ l.fn.seat.number;
}
