use Rattle.std.proofs.Common.{ap, arith}
use Rattle.run_top.specs.declared.totals.Totals.{Totals}
use Rattle.run_top.proofs.CountedWhole.{counted_next}
use Rattle.run_top.proofs.totals.all_counted.Goals as goal

pub loop-packet-preserved : goal.loop-packet-preserved
loop-packet-preserved c =
    let more = ap (λ (t : Totals). t.packets) c.counted-sum.ensures.counted in (
      counted_next c.loop-packet.sum c.counted-sum.result _ c.args.records.now c.loop-packet.packet-index _ c.loop-packet-test.true c.counted-sum.ensures.counted
          c.loop-packet.invariant.0,
      omega (arith, more, c.loop-packet.invariant.1),
      c.counted-sum.ensures.small,
    )
