use Rattle.std.proofs.Common.{◌+◌, inl, inr, length, get_or, sym, ◌∙◌, arith, subst}
use Rattle.std.proofs.lemmas.Bool.{cases_lt}
use Rattle.sent_history.specs.declared.slot.Slot.{Slot}
use Rattle.sent_history.specs.Stretches.{AllUnknown, AllKept, Agrees}
use Rattle.sent_history.proofs.Slots.{agrees_same}
use Rattle.sent_history.proofs.Stretched.{unknown_marks, kept_others, kept_marks}
use Rattle.sent_history.proofs.lost.mark_stretch.Goals as goal

pub returns-in-Some-clause-marks : goal.returns-in-Some-clause-marks
returns-in-Some-clause-marks c = λ k d lt.
    let n = c.args.stretch.count in
    let kept = length c.args.slots.now in
    let place = c.in-Some.place in
    let old = get_or c.args.slots.now k d in
    let all : AllKept c.args.sent kept c.args.low n place = rw c.in-Some.is at c.requires.stretch.what in
    elim (cases_lt k place) [
      | inl before ↦ agrees_same _ _ (c.miss_in.ensures.before k d before ∙ sym (kept_others c.args.sent kept c.args.low n place k old c.requires.low all (λ i below e. omega (arith, e, before))))
      | inr from ↦ elim (cases_lt k (place + n)) [
        | inl inside ↦
            subst (λ (s : Slot). Agrees (get_or c.miss_in.new.slots k d) s) (sym (kept_marks c.args.sent kept c.args.low n place k old c.requires.low all from inside))
            (c.miss_in.ensures.named k d from inside)
        | inr behind ↦
            agrees_same _ _ (c.miss_in.ensures.behind k d behind ∙ sym (kept_others c.args.sent kept c.args.low n place k old c.requires.low all (λ i below e. omega (arith, e, below, behind))))
      ]
    ]

pub returns-in_default-clause-marks : goal.returns-in_default-clause-marks
returns-in_default-clause-marks c = λ k d lt.
    let n = c.args.stretch.count in
    let kept = length c.args.slots.now in
    let all : AllUnknown c.args.sent kept c.args.low n = rw c.in_default.is at c.requires.stretch.what in
    agrees_same _ _ (sym (unknown_marks c.args.sent kept c.args.low n k (get_or c.args.slots.now k d) c.requires.low c.requires.slots all))
