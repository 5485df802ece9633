use Rattle.std.proofs.Common.{◌≡◌, pos, ◌+◌, ◌-◌, ◌%◌, ◌++◌, List, length, replicate, ap, sym, ◌∙◌, arith, append_assoc, append-nil, length-append, subst}
use Rattle.twcc_report.specs.declared.report.Status.TheVariants.{NotReceived}
use Rattle.sent_history.specs.declared.slot.Verdict.{Verdict}
use Rattle.sent_history.specs.Crediting.{told}
use Rattle.sent_history.specs.Judging.{slot_verdict, running}
use Rattle.sent_history.specs.Stretches.{IsStretch}
use Rattle.sent_history.proofs.Stretched.{stretch_told, stretch_room, still_few, run_splits, length_run}
use Rattle.sent_history.proofs.lost.tell_lost.Goals as goal

pub tell_stretch-requires-clause-missing : goal.tell_stretch-requires-clause-missing
tell_stretch-requires-clause-missing c =
    let f = c.requires.few in
    let so_far = c.loop-left.invariant.all f.0 (pos 0) f.1 in
    omega (arith, (still_few c.loop-left.judged f.0 so_far.0 c.args.count c.loop-left.left c.stretch_at-stretch.result.count so_far.1 so_far.2 c.stretch_at-stretch.ensures.few).0, f.2)

pub tell_stretch-requires-clause-unknown : goal.tell_stretch-requires-clause-unknown
tell_stretch-requires-clause-unknown c =
    let f = c.requires.few in
    let so_far = c.loop-left.invariant.all f.0 (pos 0) f.1 in
    omega (arith, (still_few c.loop-left.judged f.0 so_far.0 c.args.count c.loop-left.left c.stretch_at-stretch.result.count so_far.1 so_far.2 c.stretch_at-stretch.ensures.few).1, f.2)

pub tell_stretch-requires-clause-repeated : goal.tell_stretch-requires-clause-repeated
tell_stretch-requires-clause-repeated c =
    let f = c.requires.few in
    let so_far = c.loop-left.invariant.all f.0 (pos 0) f.1 in
    omega (arith, (still_few c.loop-left.judged f.0 so_far.0 c.args.count c.loop-left.left c.stretch_at-stretch.result.count so_far.1 so_far.2 c.stretch_at-stretch.ensures.few).2, f.2)

pub loop-left-preserved : goal.loop-left-preserved
loop-left-preserved c = record {
  all = λ before arrived e.
      let so_far = c.loop-left.invariant.all before arrived e in
      let done : List Verdict = so_far.0 in
      let n = c.stretch_at-stretch.result.count in
      let judge = slot_verdict c.args.slots.now c.args.sent in
      let vs : List Verdict = running judge c.args.sent c.loop-left.next arrived (replicate n NotReceived) in
      let rest : List Verdict = running judge c.args.sent ((c.loop-left.next + n) % 65536) arrived (replicate (c.loop-left.left - n) NotReceived) in
      let is : IsStretch c.args.sent (length c.args.slots.now) c.loop-left.next c.loop-left.left c.stretch_at-stretch.result =
      subst (λ k. IsStretch c.args.sent k c.loop-left.next c.loop-left.left c.stretch_at-stretch.result) c.len.ensures.len c.stretch_at-stretch.ensures in (
        done ++ vs,
        stretch_told c.args.slots.now c.args.sent c.loop-left.next c.loop-left.left c.stretch_at-stretch.result c.loop-left.judged c.tell_stretch.new.judged before done arrived
            c.loop-left.auto.next-fits.fits c.requires.slots is c.tell_stretch.ensures so_far.1,
        omega (arith, length-append done vs, length_run judge c.args.sent c.loop-left.next n arrived, so_far.2, c.stretch_at-stretch.ensures.few),
        append_assoc done vs rest
            ∙ ap (λ xs. done ++ xs) (sym (run_splits judge c.args.sent c.loop-left.next n (c.loop-left.left - n) c.loop-left.left arrived c.loop-left.auto.next-fits.fits (omega (arith, c.stretch_at-stretch.ensures.few))))
            ∙ so_far.3,
      );
  room = stretch_room c.args.slots.now c.loop-left.judged c.tell_stretch.new.judged c.stretch_at-stretch.result.place c.stretch_at-stretch.result.count c.tell_stretch.ensures
      ∙ c.loop-left.invariant.room;
}

pub returns-clause-told : goal.returns-clause-told
returns-clause-told c = λ before arrived e.
    let so_far = c.loop-left.invariant.all before arrived e in
    let left : c.loop-left.left ≡ 0 = omega (arith, c.loop-left-test.false) in
    let judge = slot_verdict c.args.slots.now c.args.sent in
    so_far.1
    ∙ ap (λ vs. told (before ++ vs)) (sym (append-nil so_far.0) ∙ ap (λ n. so_far.0 ++ running judge c.args.sent c.loop-left.next arrived (replicate n NotReceived)) (sym left) ∙ so_far.3)
