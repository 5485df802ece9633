use Rattle.send_laws.proofs.Finding.{plans-next}
use Rattle.send_laws.proofs.plans.rate_of.Goals as goal

pub loop-k-preserved : goal.loop-k-preserved
loop-k-preserved c =
    plans-next c.args.id c.args.journal.now.items c.loop-k.k c.loop-k.planned c.with_entry-planned.result c.entry_at.result.now c.entry_at.ensures
    c.loop-k.invariant c.with_entry-planned.ensures.planned c.with_entry-planned.ensures.started c.with_entry-planned.ensures.few
