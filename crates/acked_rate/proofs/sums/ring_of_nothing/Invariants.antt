use Rattle.std.proofs.Common.{◌≡◌, length, sum}
use Rattle.acked_rate.specs.declared.TheConstants.{MOST_SUMS}
use Rattle.acked_rate.proofs.sums.ring_of_nothing.Given as goal

abbrev pub invariant-loop-i : goal.invariant-loop-i
invariant-loop-i l = record {
  room : l.ring.capacity ≡ MOST_SUMS;
  count : length l.ring.items ≡ l._i;
  nothing : sum l.ring.items ≡ 0;
}
