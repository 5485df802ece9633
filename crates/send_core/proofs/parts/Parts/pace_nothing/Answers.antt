use Rattle.std.proofs.Common.{◌≡◌, ◌≤◌, [], length, max, refl, sym, ◌∙◌, ap, subst, arith}
use Rattle.std.proofs.lemmas.List.{append-nil}
use Rattle.sent_history.specs.Events.{packets}
use Rattle.pacer.specs.Pace.{paced}
use Rattle.pacer.specs.State.{terms, standing}
use Rattle.gcc_units.specs.declared.limits.TheConstants.{GREATEST_MOMENT, MOST_SENDS}
use Rattle.send_core.specs.declared.parts.Parts.{Parts}
use Rattle.send_core.specs.declared.call.Call.TheVariants as call_kind
use Rattle.send_core.specs.Reports.{events}
use Rattle.send_core.proofs.FewSends.{paced-nothing}
use Rattle.send_core.proofs.StepsMade.{steps_late}
use Rattle.send_core.proofs.PaceMade.{paced-answer, steps_paced}
use Rattle.send_core.proofs.parts.Parts.pace_nothing.Goals as goal

pub returns-then-at-gt-GREATEST_MOMENT-clause-steps :
    goal.returns-then-at-gt-GREATEST_MOMENT-clause-steps
returns-then-at-gt-GREATEST_MOMENT-clause-steps c =
    steps_late (call_kind.Pace c.args.at) _ _ c.refuse_late.result c.args.self.now c.refuse_late.new.self
    c.if-at-gt-GREATEST_MOMENT.true c.refuse_late.ensures.reply c.refuse_late.ensures.parts

pub returns-clause-answer : goal.returns-clause-answer
returns-clause-answer c = λ h s.
    let early : c.args.at ≤ GREATEST_MOMENT = omega arith in
    let none : [] ≡ paced MOST_SENDS (terms c.move_to.new.self.pacer) (standing c.move_to.new.self.pacer c.move_to.new.self.clusters.items (length (packets (events h)))) =
    subst (λ (y : Parts). [] ≡ paced MOST_SENDS (terms y.pacer) (standing y.pacer y.clusters.items (length (packets (events h))))) (sym c.move_to.ensures)
    (sym (paced-nothing c.args.self.now (max c.args.self.now.pacer.moment c.args.at) (length (packets (events h))) c.requires.nothing)) in
    paced-answer h c.args.self.now c.move_to.new.self c.args.at (length (packets (events h))) c.moment.result [] c.args.none s early c.move_to.ensures refl none
    (c.moment.ensures.value ∙ ap (λ (y : Parts). y.pacer.moment) c.tune.ensures) c.requires.empty

pub returns-clause-steps : goal.returns-clause-steps
returns-clause-steps c =
    let early : c.args.at ≤ GREATEST_MOMENT = omega arith in
    steps_paced c.args.at c.moment.result 0 [] c.args.none c.move_to.new.self.pacer c.move_to.new.self.clusters c.move_to.new.self.history
    c.args.self.now c.move_to.new.self c.tune.new.self early c.move_to.ensures refl (λ ds s. rw append-nil s)
    (c.moment.ensures.value ∙ ap (λ (y : Parts). y.pacer.moment) c.tune.ensures) (λ es s. rw append-nil s) c.tune.ensures c.requires.empty
