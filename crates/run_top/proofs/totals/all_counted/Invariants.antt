use Rattle.std.proofs.Common.{◌≡◌, ◌+◌, drop}
use Rattle.std.specs.Prelude.{fold}
use Rattle.run_top.specs.Totals.{counted, IsSmall}
use Rattle.run_top.proofs.totals.all_counted.Given as goal

abbrev pub invariant-loop-packet : goal.invariant-loop-packet
invariant-loop-packet l =
    (fold counted l.sum (drop l.packet-index l.records) ≡ fold counted l.fn.totals l.fn.records)
    × (l.sum.packets ≡ l.fn.totals.packets + l.packet-index)
    × IsSmall l.sum
