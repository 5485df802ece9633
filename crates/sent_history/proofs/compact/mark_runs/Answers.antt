use Rattle.std.proofs.Common.{◌+◌, ◌-◌, ◌%◌, ◌<◌, length, drop, get_or, sym, ◌∙◌, subst}
use Rattle.twcc_report.specs.Runs.{expanded}
use Rattle.sent_history.specs.declared.slot.Slot.{Slot}
use Rattle.sent_history.specs.Judging.{all_marks}
use Rattle.sent_history.specs.Stretches.{Agrees}
use Rattle.sent_history.proofs.ByRuns.{marked_run}
use Rattle.sent_history.proofs.compact.mark_runs.Goals as goal

pub loop-run-preserved : goal.loop-run-preserved
loop-run-preserved c = record {
  same_length = c.mark_run.ensures.length ∙ c.loop-run.invariant.same_length;
  to_come = λ k d lt.
      let kept = c.mark_run.ensures.length in
      let inside = subst (λ m. k < m) kept lt in
      let behind = (c.loop-run.low + c.run_len-low.result) % 65536 in
      let rest = expanded (drop (c.loop-run.run-index + 1) c.args.runs.now) in
      let now : Slot = get_or c.mark_run.new.slots k d in
      let old : Slot = get_or c.args.slots.now k d in
      let num = c.args.sent - length c.loop-run.slots + k in
      let all : Slot = all_marks c.args.sent c.args.base (expanded c.args.runs.now) num old in
      let one : Agrees (all_marks c.args.sent behind rest num now) all =
      subst (λ n. Agrees (all_marks c.args.sent ((c.loop-run.low + n) % 65536) rest num now) all) (sym c.run_len-low.ensures)
      (marked_run c.args.sent c.loop-run.low c.args.runs.now c.loop-run.run-index num now (get_or c.loop-run.slots k d) all c.loop-run.auto.low-fits.fits c.loop-run-test.true
      (c.mark_run.ensures.marks k d inside) (c.loop-run.invariant.to_come k d inside)) in
      subst (λ m. Agrees (all_marks c.args.sent behind rest (c.args.sent - m + k) now) (all_marks c.args.sent c.args.base (expanded c.args.runs.now) (c.args.sent - m + k) old)) (sym kept) one;
}
