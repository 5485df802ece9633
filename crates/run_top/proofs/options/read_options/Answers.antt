use Rattle.run_top.proofs.Taking.{taken_next}
use Rattle.run_top.proofs.options.read_options.Goals as goal

pub loop-place-preserved : goal.loop-place-preserved
loop-place-preserved g c = taken_next _ _ _ _ _ _ _ c.loop-place-test.true c.loop-place.invariant c.in_ok-taken.ensures.some
