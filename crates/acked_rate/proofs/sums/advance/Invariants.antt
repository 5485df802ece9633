use Rattle.std.proofs.Common.{◌≡◌, ◌+◌, ◌++◌, drop, replicate, sum}
use Rattle.acked_rate.specs.Ring.{IsFull}
use Rattle.acked_rate.proofs.sums.advance.Given as goal

abbrev pub invariant-loop-i : goal.invariant-loop-i
invariant-loop-i l = record {
  full : IsFull l.ring;
  items : l.ring.items ≡ drop l._i l.fn.ring.items ++ replicate l._i 0;
  gone : l.gone + sum l.ring.items ≡ sum l.fn.ring.items;
}
