use Rattle.std.proofs.lemmas.Result.{on_ok_weaker}
use Rattle.link_loop.proofs.Paced.{records-sendable, pace-open}
use Rattle.link_loop.proofs.pacing.pace_now.Goals as goal

pub offer_all-requires-clause-sendable : goal.offer_all-requires-clause-sendable
offer_all-requires-clause-sendable c =
    records-sendable c.args.looper.now c.can_ask.new.self c.moment-at.result c.in-Paced.at c.in_ok-sent.field-0 c.in-Paced.sent c.as_slice.result.now c.requires.sound
    (c.can_ask.ensures.open c.if-not-can_ask.false) c.in_ok-sent.ensures.reply c.in-Paced.is c.as_slice.ensures.items

pub returns-in-Paced-clause-at : goal.returns-in-Paced-clause-at
returns-in-Paced-clause-at c =
    on_ok_weaker c.offer_all.result
    (λ all s m h.
    pace-open c.args.looper.now c.can_ask.new.self c.serve.new.self c.offer_all.new.looper c.can_ask.result _ _ c.args.t c.moment-at.result c.in-Paced.at c.in_ok-sent.field-0 c.in-Paced.sent
    c.as_slice.result.now s m c.can_ask.ensures.value c.if-not-can_ask.false (c.can_ask.ensures.open c.if-not-can_ask.false) c.moment-at.ensures c.in_ok-sent.ensures.grown
    c.in_ok-sent.ensures.reply c.in-Paced.is c.as_slice.ensures.items all h)
    c.offer_all.ensures.at
