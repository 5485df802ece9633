use Rattle.std.proofs.Common.{◌≡◌, ◌*◌, ◌≤◌, take, sum_by}
use Rattle.live_loop.specs.Measures.{carried_of}
use Rattle.live_loop.proofs.measures.carried.Given as goal

abbrev pub invariant-loop-sample : goal.invariant-loop-sample
invariant-loop-sample l = (l.bytes ≡ sum_by carried_of (take l.sample-index l.samples)) × (l.bytes ≤ 18446744073709551615 * l.sample-index)
