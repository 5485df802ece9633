use Rattle.estimator.proofs.Reports.{hears_more, takes_next}
use Rattle.estimator.proofs.hearing.hear.Goals as goal

pub take_credit-signal-requires-clause-room : goal.take_credit-signal-requires-clause-room
take_credit-signal-requires-clause-room c =
    let r = c.requires.room in
    takes_next c.args.received.now c.loop-credit.credit-index _ _ _ _ _ _ _ c.loop-credit-test.true r (c.loop-credit.invariant r.before r.follow).follow

pub loop-credit-preserved : goal.loop-credit-preserved
loop-credit-preserved c before follow =
    hears_more before c.args.received.now c.loop-credit.credit-index _ _ _ _ _ c.loop-credit-test.true (c.loop-credit.invariant before follow) _ _ _ _
    c.take_credit-signal.ensures.follow c.take_credit-signal.ensures.signal _ c.heard_with-heard.ensures
