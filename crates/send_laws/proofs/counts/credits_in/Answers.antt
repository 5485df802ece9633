use Rattle.send_laws.proofs.CreditsWalked.{walked-none, walked-more}
use Rattle.send_laws.proofs.counts.credits_in.Goals as goal

pub loop-k-init : goal.loop-k-init
loop-k-init c = walked-none c.args.journal.now.items c.args.first

pub loop-k-preserved : goal.loop-k-preserved
loop-k-preserved c =
    walked-more c.args.journal.now.items c.args.first c.loop-k.k c.loop-k.credits.all c.loop-k.credits.kept c.with_reply-credits.result.all c.with_reply-credits.result.kept
    c.entry_at.result.now c.entry_at.ensures c.loop-k.invariant
    c.with_reply-credits.ensures.all c.with_reply-credits.ensures.kept c.with_reply-credits.ensures.few
