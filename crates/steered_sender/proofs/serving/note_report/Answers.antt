use Rattle.std.proofs.Common.{◌≡◌, Some, [], ◌∷◌, ◌++◌, refl, sym, ◌∙◌, ap, subst}
use Rattle.send_core.specs.declared.call.Call.TheVariants as call
use Rattle.send_core.specs.declared.call.Reply.{Reply}
use Rattle.send_core.specs.History.{entry}
use Rattle.live_sender.specs.Live as live
use Rattle.steered_sender.specs.Steered.{answered}
use Rattle.steered_sender.specs.Steps.{Steers}
use Rattle.steered_sender.proofs.Hearing.{takes, heard-moves, answer-is, answers-none, report-refused}
use Rattle.steered_sender.proofs.Pushing.{quiet-stays}
use Rattle.steered_sender.proofs.serving.note_report.Goals as goal

pub hear-requires-clause-takes : goal.hear-requires-clause-takes
hear-requires-clause-takes c =
    let r = c.requires.answered in
    let k = c.in-Credited in
    takes r.0 0 r.1 r.2 k.at k.judged k.signal k.m k.acked k.rates k.shares r.3 r.4 c.args.steering.now r.6 r.7 r.5
    (subst (λ (g : Reply). live.StandsFor r.4 (r.0 ++ entry 0 (call.Report r.1 r.2) g ∷ [])) k.is r.8) (sym k.is ∙ r.9)

pub returns-in-Credited : goal.returns-in-Credited
returns-in-Credited c = record {
  steering = λ h caller at bytes steers answered.
      let k = c.in-Credited in
      subst (λ (g : Reply). Steers c.hear.new.self (h ++ entry caller (call.Report at bytes) g ∷ [])) (sym k.is)
      (heard-moves h caller at bytes k.at k.judged k.signal k.m k.acked k.rates k.shares c.hear.result c.args.steering.now c.hear.new.self steers c.hear.ensures (sym k.is ∙ answered));
  answer = λ h steers.
      let k = c.in-Credited in
      subst (λ (g : Reply). Some c.hear.result ≡ answered c.args.steering.now.start h g) (sym k.is)
      (ap Some (answer-is h k.at k.judged k.acked c.hear.result c.args.steering.now c.hear.new.self steers c.hear.ensures));
  start = c.hear.ensures.start;
}

pub returns-in_default : goal.returns-in_default
returns-in_default c = record {
  steering = λ h caller at bytes steers answered.
      quiet-stays h caller (call.Report at bytes) c.args.given.now c.args.steering.now (report-refused h at bytes c.args.given.now answered c.in_default.not-Credited) steers c.requires.nothing;
  answer = λ h steers. answers-none c.args.steering.now.start h c.args.given.now c.in_default.not-Credited;
  start = refl;
}
