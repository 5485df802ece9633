use Rattle.link_loop.proofs.Steps.{ask-over, ask-open}
use Rattle.link_loop.proofs.looper.Looper.ask.Goals as goal

pub returns-then-not-can_ask-clause-at : goal.returns-then-not-can_ask-clause-at
returns-then-not-can_ask-clause-at c s m h =
    ask-over c.args.self.now c.can_ask.new.self c.can_ask.result c.args.caller c.args.call s m c.can_ask.ensures.value c.if-not-can_ask.true
    (c.can_ask.ensures.over c.if-not-can_ask.true) h

pub returns-clause-at : goal.returns-clause-at
returns-clause-at c s m h =
    ask-open c.args.self.now c.can_ask.new.self c.serve.new.self c.can_ask.result _ _ c.args.caller c.args.call s m c.can_ask.ensures.value c.if-not-can_ask.false
    (c.can_ask.ensures.open c.if-not-can_ask.false) c.in_ok-serve.ensures.grown h
