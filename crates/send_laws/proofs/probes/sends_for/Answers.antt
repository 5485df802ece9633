use Rattle.std.proofs.Common.{arith}
use Rattle.send_laws.proofs.Summing.{few-at}
use Rattle.send_laws.proofs.Finding.{sends-next}
use Rattle.send_laws.proofs.probes.sends_for.Goals as goal

pub with_reply-sends-requires : goal.with_reply-sends-requires
with_reply-sends-requires c =
    omega (arith, c.loop-k.invariant.few, few-at c.args.journal.now.items c.loop-k.k c.entry_at.result.now c.entry_at.ensures c.requires.each)

pub loop-k-preserved : goal.loop-k-preserved
loop-k-preserved c =
    sends-next c.args.id c.args.journal.now.items c.loop-k.k c.loop-k.sends c.with_reply-sends.result c.entry_at.result.now c.entry_at.ensures c.requires.each
    c.loop-k.invariant c.with_reply-sends.ensures.sends c.with_reply-sends.ensures.few
