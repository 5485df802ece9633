use Rattle.run_top.specs.Words.{names}
use Rattle.run_top.proofs.Taking.{found_here, found_later}
use Rattle.run_top.proofs.options.option.Goals as goal

pub returns-in-Some-clause-some : goal.returns-in-Some-clause-some
returns-in-Some-clause-some c = found_here names _ _ _ _ _ c.loop-name-test.true c.loop-name.invariant c.in-Some.ensures.some

pub loop-name-preserved : goal.loop-name-preserved
loop-name-preserved c = found_later names _ _ _ _ c.loop-name-test.true c.loop-name.invariant c.in_default.ensures.none
