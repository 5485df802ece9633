use Rattle.std.proofs.Common.{◌≡◌, ◌∙◌, ap, sym, subst}
use Rattle.call_trace.specs.MadeReports.{AreNear}
use Rattle.call_trace.specs.Making.{Making, uncovered, with_opening, with_audio, with_frame, with_pace}
use Rattle.call_trace.specs.Makers.{making}
use Rattle.call_trace.proofs.Steadiness.{sent-window, window-near}
use Rattle.call_trace.proofs.making.Maker.millisecond.Goals as goal

pub report-requires-clause-near : goal.report-requires-clause-near
report-requires-clause-near c =
    let m = making c.args.self.now in
    let t = c.args.t in
    let sent : making c.pace.new.self ≡ with_pace t (with_frame t (with_audio t (with_opening t m)))
    = c.in_ok-pace.ensures.making
    ∙ ap (with_pace t) (c.in_ok-enqueue_frame.ensures.making ∙ ap (with_frame t) (c.in_ok-enqueue_audio.ensures.making ∙ ap (with_audio t) c.in_ok-open.ensures.making)) in
    subst (λ (made : Making). AreNear (uncovered made)) (sym sent) (window-near t _ (with_pace t (with_frame t (with_audio t (with_opening t m)))) c.requires.early (sent-window t m c.requires.steady))
