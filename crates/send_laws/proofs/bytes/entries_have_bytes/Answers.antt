use Rattle.send_laws.proofs.CreditsWalked.{bytes-next}
use Rattle.send_laws.proofs.bytes.entries_have_bytes.Goals as goal

pub loop-k-preserved : goal.loop-k-preserved
loop-k-preserved c = bytes-next c.args.journal.now.items c.loop-k.k c.entry_at.result.now c.entry_at.ensures c.call_brings_bytes.ensures c.loop-k.invariant
