use Rattle.std.proofs.Common.{◌≡◌, ◌+◌, ◌++◌, take, length, arith, sym, ◌∙◌, ap, length-append, refl}
use Rattle.std.proofs.lemmas.Bool.{eq-eqb, ne_eqb}
use Rattle.call_trace.specs.Merge.{made, calls_by}
use Rattle.reply_text.proofs.OneMore.{flat_map-next}
use Rattle.reply_text.proofs.looking.count_calls_by.Goals as goal
use Rattle.reply_text.proofs.looking.count_calls_by.Goals.{then-entry-actor, else-entry-actor}

pub loop-k-preserved : goal.loop-k-preserved
loop-k-preserved c =
    let a = c.args.actor in
    let items = c.args.journal.now.items in
    let e = c.in-Some.entry.now in
    let more : calls_by a (take (c.loop-k.k + 1) items) ≡ calls_by a (take c.loop-k.k items) ++ made a e = flat_map-next (made a) items c.loop-k.k e (sym c.in-Some.ensures) in
    let long : length (calls_by a (take (c.loop-k.k + 1) items)) ≡ length (calls_by a (take c.loop-k.k items)) + length (made a e) = ap length more ∙ length-append (calls_by a (take c.loop-k.k items)) (made a e) in
    elim c.if-entry-actor.branch [
      | then-entry-actor w ↦ (let one : length (made a e) ≡ 1 = rw (eq-eqb e.caller a w.if-entry-actor.true) refl in (omega (arith, c.loop-k.invariant.0), omega (arith, c.loop-k.invariant.1)))
      | else-entry-actor w ↦ (let none : length (made a e) ≡ 0 = rw (ne_eqb e.caller a w.if-entry-actor.false) refl in (omega (arith, c.loop-k.invariant.0), omega (arith, c.loop-k.invariant.1)))
    ]
