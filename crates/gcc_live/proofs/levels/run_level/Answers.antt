use Rattle.gcc_live.proofs.levels.run_level.Goals as goal

pub loop-number-preserved : goal.loop-number-preserved
loop-number-preserved c = record {
  order = c.in_ok-take.ensures.order;
  gathers = c.in_ok-take.ensures.gathers c.loop-number.number c.loop-number.invariant.gathers;
}
