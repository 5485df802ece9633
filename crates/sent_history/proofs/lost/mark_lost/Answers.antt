use Rattle.std.proofs.Common.{◌+◌, ◌-◌, ◌%◌, ◌<◌, length, get_or, replicate, sym, ◌∙◌, arith, subst}
use Rattle.twcc_report.specs.declared.report.Status.TheVariants.{NotReceived}
use Rattle.sent_history.specs.declared.slot.Slot.{Slot}
use Rattle.sent_history.specs.Judging.{all_marks}
use Rattle.sent_history.specs.Stretches.{Agrees}
use Rattle.sent_history.proofs.Stretched.{agrees_trans, agrees_marks, marks_split}
use Rattle.sent_history.proofs.lost.mark_lost.Goals as goal

pub loop-left-preserved : goal.loop-left-preserved
loop-left-preserved c = record {
  same_length = c.mark_stretch.ensures.length ∙ c.loop-left.invariant.same_length;
  to_come = λ k d lt.
      let n = c.stretch_at-stretch.result.count in
      let left = c.loop-left.left in
      let kept = c.mark_stretch.ensures.length in
      let num = c.args.sent - length c.loop-left.slots + k in
      let old : Slot = get_or c.loop-left.slots k d in
      let now : Slot = get_or c.mark_stretch.new.slots k d in
      let behind = (c.loop-left.next + n) % 65536 in
      let inside = subst (λ m. k < m) kept lt in
      let all : Slot = all_marks c.args.sent c.args.low (replicate c.args.count NotReceived) num (get_or c.args.slots.now k d) in
      let one : Agrees (all_marks c.args.sent behind (replicate (left - n) NotReceived) num now)
      (all_marks c.args.sent behind (replicate (left - n) NotReceived) num (all_marks c.args.sent c.loop-left.next (replicate n NotReceived) num old)) =
      agrees_marks c.args.sent behind (replicate (left - n) NotReceived) num now _ (c.mark_stretch.ensures.marks k d inside) in
      let split = marks_split c.args.sent c.loop-left.next n (left - n) left num old c.loop-left.auto.next-fits.fits (omega (arith, c.stretch_at-stretch.ensures.few)) in
      let both : Agrees (all_marks c.args.sent behind (replicate (left - n) NotReceived) num now) all =
      agrees_trans _ _ _ one (subst (λ (s : Slot). Agrees s all) split (c.loop-left.invariant.to_come k d inside)) in
      subst (λ m. Agrees (all_marks c.args.sent behind (replicate (left - n) NotReceived) (c.args.sent - m + k) now)
      (all_marks c.args.sent c.args.low (replicate c.args.count NotReceived) (c.args.sent - m + k) (get_or c.args.slots.now k d))) (sym kept) both;
}
