use Rattle.std.proofs.Common.{List, subst}
use Rattle.acked_rate.specs.Received.{Add}
use Rattle.acked_rate.specs.Kept.{StandsFor}
use Rattle.estimator.specs.Report.{add_of}
use Rattle.estimator.proofs.Noting.{given_more, given_all}
use Rattle.estimator.proofs.Taking.{takes_add}
use Rattle.estimator.proofs.report.add_all.Goals as goal

pub add_credit-requires-clause-few : goal.add_credit-requires-clause-few
add_credit-requires-clause-few c =
    let r = c.requires.room in
    takes_add c.args.received.now c.loop-credit.credit-index _ _ c.loop-credit-test.true c.requires.within r (c.loop-credit.invariant r.before r.stands)

pub loop-credit-preserved : goal.loop-credit-preserved
loop-credit-preserved c adds stands =
    let Stands : List Add → Type 0 = StandsFor c.add_credit.new.window in
    subst Stands (given_more add_of adds c.args.received.now c.loop-credit.credit-index _ c.loop-credit-test.true) (c.add_credit.ensures _ (c.loop-credit.invariant adds stands))

pub returns : goal.returns
returns c adds stands =
    let Stands : List Add → Type 0 = StandsFor c.loop-credit.window in
    subst Stands (given_all add_of adds c.args.received.now c.loop-credit.credit-index c.loop-credit-test.false) (c.loop-credit.invariant adds stands)
