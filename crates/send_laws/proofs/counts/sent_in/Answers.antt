use Rattle.std.proofs.Common.{arith}
use Rattle.send_laws.proofs.CreditsWalked.{sent-next}
use Rattle.send_laws.proofs.counts.sent_in.Goals as goal

pub loop-k-preserved : goal.loop-k-preserved
loop-k-preserved c =
    let next = sent-next c.args.journal.now.items c.loop-k.k c.entry_at.result.now c.entry_at.ensures in
    record {
      count_is = omega (arith, next, c.loop-k.invariant.count_is, c.records_in.ensures);
      few = omega (arith, c.loop-k.invariant.few);
    }
