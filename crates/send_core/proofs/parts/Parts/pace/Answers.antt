use Rattle.std.proofs.Common.{◌≡◌, ℕ, ◌≤◌, ◌++◌, List, length, map, max, sym, ◌∙◌, ap, subst, arith}
use Rattle.sent_history.specs.Events.{Event, packets}
use Rattle.sent_history.specs.Kept as history_kept
use Rattle.pacer.specs.declared.sent.Sent.{Sent}
use Rattle.pacer.specs.Pace.{paced}
use Rattle.pacer.proofs.Sends.{paced-few}
use Rattle.pacer.specs.State.{State, terms, standing}
use Rattle.send_core.specs.declared.parts.Parts.{Parts}
use Rattle.send_core.specs.Recording.{TakesSent}
use Rattle.send_core.specs.Reports.{events, added_of}
use Rattle.gcc_units.specs.Listed.{Listed}
use Rattle.gcc_units.specs.declared.limits.TheConstants.{GREATEST_MOMENT, MOST_SENDS}
use Rattle.send_core.specs.declared.call.Call.TheVariants as call_kind
use Rattle.send_core.specs.Bounds.{most_paced}
use Rattle.send_core.proofs.FewSends.{paced-most}
use Rattle.send_core.proofs.StepsMade.{steps_late}
use Rattle.send_core.proofs.PaceMade.{paced-answer, takes-sent, may-lower, steps_paced}
use Rattle.send_core.proofs.parts.Parts.pace.Goals as goal

pub returns-then-at-gt-GREATEST_MOMENT-clause-steps :
    goal.returns-then-at-gt-GREATEST_MOMENT-clause-steps
returns-then-at-gt-GREATEST_MOMENT-clause-steps c =
    steps_late (call_kind.Pace c.args.at) _ _ c.refuse_late.result c.args.self.now c.refuse_late.new.self
    c.if-at-gt-GREATEST_MOMENT.true c.refuse_late.ensures.reply c.refuse_late.ensures.parts

pub pace-requires-clause-few : goal.pace-requires-clause-few
pace-requires-clause-few c =
    may-lower c.requires.stands.0 c.args.self.now c.move_to.new.self (max c.args.self.now.pacer.moment c.args.at) c.requires.stands.1 c.requires.stands.2 c.move_to.ensures

pub record_sent-requires : goal.record_sent-requires
record_sent-requires c =
    let few : length (paced MOST_SENDS (terms c.move_to.new.self.pacer) (standing c.move_to.new.self.pacer c.move_to.new.self.clusters.items c.sent.result)) ≤ MOST_SENDS =
    paced-few MOST_SENDS (terms c.move_to.new.self.pacer) (standing c.move_to.new.self.pacer c.move_to.new.self.clusters.items c.sent.result) in
    let many : length c.as_slice.result.now ≡ length (paced MOST_SENDS (terms c.move_to.new.self.pacer) (standing c.move_to.new.self.pacer c.move_to.new.self.clusters.items c.sent.result)) =
    ap length (c.as_slice.ensures.items ∙ c.pace.ensures.records) in
    let here : c.moment-moment.result ≡ max c.args.self.now.pacer.moment c.args.at =
    c.moment-moment.ensures.value ∙ (ap (λ (s : State). s.moment) c.pace.ensures.left ∙ ap (λ (p : Parts). p.pacer.moment) c.move_to.ensures) in
    subst (λ v. TakesSent v c.moment-moment.result (length c.as_slice.result.now)) (sym (ap (λ (p : Parts). p.history) c.move_to.ensures))
    (takes-sent c.requires.stands.0 c.args.self.now c.moment-moment.result (length c.as_slice.result.now) c.requires.stands.1 c.requires.stands.2 (omega arith) (omega arith))

pub returns-clause-answer : goal.returns-clause-answer
returns-clause-answer c = λ h s.
    let early : c.args.at ≤ GREATEST_MOMENT = omega arith in
    let number : c.sent.result ≡ length (packets (events h)) =
    c.sent.ensures (events h) (subst (λ v. history_kept.StandsFor v (events h)) (sym (ap (λ (p : Parts). p.history) c.move_to.ensures)) s.packets) in
    paced-answer h c.args.self.now c.move_to.new.self c.args.at c.sent.result c.moment-moment.result c.pace.new.out.items c.trim.new.self s early c.move_to.ensures number
    c.pace.ensures.records (c.moment-moment.ensures.value ∙ ap (λ (t : State). t.moment) c.pace.ensures.left) c.trim.ensures

pub returns-clause-steps : goal.returns-clause-steps
returns-clause-steps c =
    let early : c.args.at ≤ GREATEST_MOMENT = omega arith in
    steps_paced c.args.at c.moment-moment.result c.sent.result c.pace.new.out.items c.trim.new.self c.pace.new.self c.pace.new.clusters c.record_sent.new.history
    c.args.self.now c.move_to.new.self c.tune.new.self early c.move_to.ensures c.pace.ensures.left c.pace.ensures.stands c.moment-moment.ensures.value
    (subst (λ rs. (es : List Event) → history_kept.StandsFor c.move_to.new.self.history es → history_kept.StandsFor c.record_sent.new.history (es ++ map (added_of c.moment-moment.result) rs))
    c.as_slice.ensures.items c.record_sent.ensures)
    c.tune.ensures c.trim.ensures

pub returns-clause-few : goal.returns-clause-few
returns-clause-few c =
    within _ _ _ (ap (λ (v : Listed Sent). length v.items) c.trim.ensures ∙ ap length c.pace.ensures.records)
    (subst (λ (y : Parts). length (paced MOST_SENDS (terms y.pacer) (standing y.pacer y.clusters.items c.sent.result)) ≤ most_paced c.args.self.now) (sym c.move_to.ensures)
    (paced-most c.args.self.now (max c.args.self.now.pacer.moment c.args.at) c.sent.result))
  where
    within : (m n most : ℕ) → m ≡ n → n ≤ most → m ≤ most
    within m n most e h = omega arith
