use Rattle.link_loop.proofs.Steps.{served-over, served-open}
use Rattle.link_loop.proofs.receiving.serve_report.Goals as goal

pub returns-then-not-can_ask-clause-at : goal.returns-then-not-can_ask-clause-at
returns-then-not-can_ask-clause-at c s m h =
    served-over c.args.looper.now c.can_ask.new.self c.can_ask.result c.args.t _ s m c.can_ask.ensures.value c.if-not-can_ask.true (c.can_ask.ensures.over c.if-not-can_ask.true) h

pub returns-clause-at : goal.returns-clause-at
returns-clause-at c s m h =
    served-open c.args.looper.now c.can_ask.new.self c.serve.new.self c.can_ask.result _ _ c.args.t c.moment-at.result c.in_ok-bytes.bytes c.args.report.now c.in_ok-duplicate.field-0
    c.push.new.reports s m c.can_ask.ensures.value c.if-not-can_ask.false (c.can_ask.ensures.open c.if-not-can_ask.false) c.moment-at.ensures c.in_ok-bytes.ensures.settled
    c.in_ok-bytes.ensures.canonical c.in_ok-bytes.ensures.read c.requires.writable c.in_ok-serve.ensures.grown c.in_ok-duplicate.ensures c.in_ok-push.ensures h
