use Rattle.std.proofs.Common.{◌++◌, take}
use Rattle.run_top.proofs.OneMore.{takes-next, so_far-grows}
use Rattle.run_top.proofs.comparing.Comparing.take_all.Goals as goal

pub take-requires : goal.take-requires
take-requires c =
    takes-next c.loop-credit.self c.requires.0 c.args.received.now c.loop-credit.credit-index _ c.loop-credit-test.true (c.loop-credit.invariant c.requires.0 c.requires.1) c.requires.2

pub loop-credit-preserved : goal.loop-credit-preserved
loop-credit-preserved c before so_far =
    so_far-grows _ before c.args.received.now c.loop-credit.credit-index _ c.loop-credit-test.true
    (c.in_ok-take.ensures (before ++ take c.loop-credit.credit-index c.args.received.now) (c.loop-credit.invariant before so_far))
