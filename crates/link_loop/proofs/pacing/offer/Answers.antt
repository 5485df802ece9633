use Rattle.std.proofs.Common.{◌∙◌, sym, ap, ◌++◌, List, ℕ, append-nil}
use Rattle.std.proofs.lemmas.Result.{on_ok_weaker}
use Rattle.link_path.specs.Link.{offers}
use Rattle.link_loop.specs.Looping.{offer_of}
use Rattle.link_loop.proofs.Offering.{is-dropped, is-kept, offer-at}
use Rattle.link_loop.proofs.pacing.offer.Goals as goal

pub returns-in-Dropped-clause-at : goal.returns-in-Dropped-clause-at
returns-in-Dropped-clause-at c =
    on_ok_weaker c.push.result
    (λ pushed s m h.
    let o = offer_of c.args.now c.args.record.now in
    let dropped = is-dropped s (offers m.events) o c.in_ok-offer.field-0 (c.in_ok-offer.ensures.fate s m.events h.link) c.in-Dropped.is in
    offer-at c.args.looper.now c.offer.new.self c.push.new.numbers c.args.record.now c.args.now s m (c.in_ok-offer.ensures.stands s m.events h.link)
    (pushed ∙ ap (λ (ns : List ℕ). c.args.looper.now.dropped.items ++ ns) (sym dropped)) h)
    c.push.ensures

pub returns-in-Arrives-clause-at : goal.returns-in-Arrives-clause-at
returns-in-Arrives-clause-at c s m h =
    let o = offer_of c.args.now c.args.record.now in
    let none = is-kept s (offers m.events) o c.in-Arrives.field-0 c.in_ok-offer.field-0 (c.in_ok-offer.ensures.fate s m.events h.link) c.in-Arrives.is in
    offer-at c.args.looper.now c.offer.new.self c.args.looper.now.dropped c.args.record.now c.args.now s m (c.in_ok-offer.ensures.stands s m.events h.link)
    (sym (ap (λ (ns : List ℕ). c.args.looper.now.dropped.items ++ ns) none ∙ append-nil c.args.looper.now.dropped.items)) h
