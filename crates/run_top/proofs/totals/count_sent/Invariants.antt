use Rattle.std.proofs.Common.{◌≡◌, ◌*◌, ◌≤◌, take}
use Rattle.send_core.specs.History.{sent}
use Rattle.run_top.specs.Totals.{totals_of, IsSmall}
use Rattle.run_top.proofs.totals.count_sent.Given as goal

abbrev pub invariant-loop-k : goal.invariant-loop-k
invariant-loop-k l = (l.sum ≡ totals_of (sent (take l.k l.journal.items))) × (l.sum.packets ≤ 4294967295 * l.k) × IsSmall l.sum
