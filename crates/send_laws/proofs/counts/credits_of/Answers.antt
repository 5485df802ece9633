use Rattle.std.proofs.Common.{arith}
use Rattle.send_laws.proofs.Remaining.{AreCounts, counts-are}
use Rattle.send_laws.proofs.counts.credits_of.Goals as goal

pub returns : goal.returns
returns c =
    let found : AreCounts c.args.journal.now.items c.args.count c.credits_in.result.all c.credits_in.result.kept =
    counts-are c.args.journal.now.items c.args.count c.saturating_sub.result c.credits_in.result.all c.credits_in.result.kept c.requires.legal.each c.requires.count
    (omega arith) c.credits_in.ensures.all c.credits_in.ensures.kept c.entries_have_bytes.ensures in
    record { all = c.credits_in.ensures.all; judged = found.all; kept = found.kept_is; balance = found.balance }
