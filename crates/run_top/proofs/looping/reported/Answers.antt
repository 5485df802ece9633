use Rattle.std.proofs.Common.{◌∙◌, ap, count_by, arith}
use Rattle.twcc_report.specs.declared.report.Report.{Report}
use Rattle.sent_history.specs.Crediting.{is_received}
use Rattle.run_top.proofs.Reported.{reported_next}
use Rattle.run_top.proofs.looping.reported.Goals as goal

pub loop-report-preserved : goal.loop-report-preserved
loop-report-preserved c = (
  reported_next c.loop-report.count c.received_count.result _ _ c.args.reports.now c.loop-report.report-index c.report-item.result (omega (arith, c.loop-report-test.true))
      (c.received_count.ensures ∙ (ap (count_by is_received) c.as_slice.ensures.items ∙ ap (λ (r : Report). count_by is_received r.statuses.items) c.report-item.is)) (omega arith)
      c.loop-report.invariant.0,
  omega (arith, c.loop-report.invariant.1),
)
