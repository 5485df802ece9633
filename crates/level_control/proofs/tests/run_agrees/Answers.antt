use Rattle.level_control.proofs.tests.run_agrees.Goals as goal

pub loop-row-preserved : goal.loop-row-preserved
loop-row-preserved g c =
    record {
      moment = c.report_of-report.ensures.report.moment;
      order = c.given-answer.ensures.last;
      gathers = c.given-answer.ensures.gathers c.loop-row.row-index c.loop-row.invariant.gathers;
    }
