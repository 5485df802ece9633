use Rattle.std.proofs.Common.{take, arith, length-take}
use Rattle.reply_text.proofs.OwnGlances.{few_made}
use Rattle.reply_text.proofs.looking.glanced.Goals as goal

pub overflow_add-made : goal.overflow_add-made
overflow_add-made c =
    let h = c.args.served.now.sender in
    let counted = rw c.journal-journal.ensures.entries at c.count_calls_by.ensures in
    let low = few_made c.args.actor (take c.args.glance.now.calls h) in
    omega (arith, counted, low, length-take c.args.glance.now.calls h, c.requires.standing.made, c.journal-journal.ensures.legal.short)
