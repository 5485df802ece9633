use Rattle.std.proofs.Common.{◌≡◌, ◌*◌, ◌≤◌, take, sum}
use Rattle.live_loop.proofs.measures.sum_of.Given as goal

abbrev pub invariant-loop-number : goal.invariant-loop-number
invariant-loop-number l = (l.sum ≡ sum (take l.number-index l.numbers)) × (l.sum ≤ 18446744073709551615 * l.number-index)
