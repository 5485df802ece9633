use Rattle.std.proofs.Common.{sym, arith}
use Rattle.run_top.proofs.CountedWhole.{entry_counted}
use Rattle.run_top.proofs.totals.count_sent.Goals as goal

pub loop-k-preserved : goal.loop-k-preserved
loop-k-preserved c = (
  entry_counted c.loop-k.sum c.reply_counted-sum.result c.args.journal.now.items c.loop-k.k c.in-Some.entry.now (sym c.in-Some.ensures)
      c.loop-k.invariant.0 c.reply_counted-sum.ensures.counted,
  omega (arith, c.loop-k.invariant.1, c.reply_counted-sum.ensures.packets),
  c.reply_counted-sum.ensures.small,
)
