use Rattle.std.proofs.Common.{arith}
use Rattle.send_laws.proofs.Summing.{few-at, counted-more}
use Rattle.send_laws.proofs.spans.counted_over.Goals as goal

pub with_reply-counted-requires : goal.with_reply-counted-requires
with_reply-counted-requires c =
    omega (arith, c.loop-k.invariant.few, few-at c.args.journal.now.items c.loop-k.k c.entry_at.result.now c.entry_at.ensures c.requires.legal.each)

pub loop-k-preserved : goal.loop-k-preserved
loop-k-preserved c =
    counted-more c.args.budget c.args.journal.now.items c.args.i c.loop-k.k c.loop-k.counted c.with_reply-counted.result c.entry_at.result.now
    c.loop-k.auto.k c.entry_at.ensures c.requires.legal.each c.loop-k.invariant c.with_reply-counted.ensures.counts c.with_reply-counted.ensures.few
