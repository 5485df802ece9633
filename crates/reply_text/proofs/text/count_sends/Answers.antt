use Rattle.std.proofs.Common.{◌≡◌, ◌+◌, ◌++◌, length, take, sym, ◌∙◌, ap, arith, length-append}
use Rattle.send_core.specs.declared.call.Entry.{Entry}
use Rattle.send_core.specs.History.{sent, sent_by}
use Rattle.reply_text.proofs.OneMore.{flat_map-next}
use Rattle.reply_text.proofs.text.count_sends.Goals as goal

pub loop-k-preserved : goal.loop-k-preserved
loop-k-preserved c =
    let more : sent (take (c.loop-k.k + 1) c.args.journal.now.items) ≡ sent (take c.loop-k.k c.args.journal.now.items) ++ sent_by c.in-Some.entry.now.reply =
    flat_map-next (λ (e : Entry). sent_by e.reply) c.args.journal.now.items c.loop-k.k c.in-Some.entry.now (sym c.in-Some.ensures) in
    let long : length (sent (take (c.loop-k.k + 1) c.args.journal.now.items)) ≡ length (sent (take c.loop-k.k c.args.journal.now.items)) + length (sent_by c.in-Some.entry.now.reply) =
    ap length more ∙ length-append (sent (take c.loop-k.k c.args.journal.now.items)) (sent_by c.in-Some.entry.now.reply) in
    (omega (arith, c.from-count.ensures, c.sends_of.ensures), omega (arith, c.from-count.ensures, c.sends_of.type_inv))
