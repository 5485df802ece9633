use Rattle.std.proofs.Common.{◌≡◌, ◌≤◌, length, count_by, nat_le, true, sym, ◌∙◌, ap, subst, arith}
use Rattle.std.proofs.lemmas.Bool.Decides.{nat_tests}
use Rattle.gcc_units.specs.declared.limits.TheConstants.{GREATEST_MOMENT, MOST_STREAMS}
use Rattle.allocator.specs.Streams.{changed}
use Rattle.send_core.specs.declared.call.Call.TheVariants as call_kind
use Rattle.probe_clusters.specs.Cluster.{waits}
use Rattle.send_core.specs.declared.parts.Parts.{Parts}
use Rattle.send_core.specs.Reply.{standing}
use Rattle.send_core.specs.Settings.{settings_after, plans}
use Rattle.send_core.specs.Stands.{AreSettings}
use Rattle.send_core.specs.Planning.{CanPlan}
use Rattle.send_core.proofs.StepsMade.{steps_late, steps_refused}
use Rattle.send_core.proofs.Checking.{HasPassed, has-passed, settings-pass, start-passes, can-plan}
use Rattle.send_core.proofs.Configuring.{refused-answer, configured-answer, steps_configured}
use Rattle.send_core.proofs.parts.Parts.configure.Goals as goal

pub returns-then-at-gt-GREATEST_MOMENT-clause-steps :
    goal.returns-then-at-gt-GREATEST_MOMENT-clause-steps
returns-then-at-gt-GREATEST_MOMENT-clause-steps c =
    steps_late (call_kind.Configure c.args.at c.args.change.now) _ _ c.refuse_late.result c.args.self.now c.refuse_late.new.self
    c.if-at-gt-GREATEST_MOMENT.true c.refuse_late.ensures.reply c.refuse_late.ensures.parts

pub returns-in-Some-clause-answer : goal.returns-in-Some-clause-answer
returns-in-Some-clause-answer c = λ h s.
    let early : c.args.at ≤ GREATEST_MOMENT = omega arith in
    refused-answer h c.args.self.now c.move_to.new.self c.args.at c.args.change.now c.in_ok-fault.fault c.in-Some.check c.refuse.result s early c.move_to.ensures (c.in_ok-fault.ensures h s) c.in-Some.is c.refuse.ensures.reply

pub returns-in-Some-clause-steps : goal.returns-in-Some-clause-steps
returns-in-Some-clause-steps c =
    let early : c.args.at ≤ GREATEST_MOMENT = omega arith in
    steps_refused (call_kind.Configure c.args.at c.args.change.now) _ _ c.refuse.result c.args.self.now c.move_to.new.self c.refuse.new.self
    early c.refuse.ensures.reply c.move_to.ensures c.refuse.ensures.parts

pub changed-requires-clause-sound : goal.changed-requires-clause-sound
changed-requires-clause-sound c = (has-passed (standing c.requires.0) c.args.change.now (sym (c.in_ok-fault.ensures c.requires.0 c.requires.1) ∙ c.in_default.is)).sound

pub changed-requires-clause-differ : goal.changed-requires-clause-differ
changed-requires-clause-differ c = (has-passed (standing c.requires.0) c.args.change.now (sym (c.in_ok-fault.ensures c.requires.0 c.requires.1) ∙ c.in_default.is)).differ

pub changed-requires-clause-few : goal.changed-requires-clause-few
changed-requires-clause-few c =
    let p : HasPassed (standing c.requires.0) c.args.change.now = has-passed (standing c.requires.0) c.args.change.now (sym (c.in_ok-fault.ensures c.requires.0 c.requires.1) ∙ c.in_default.is) in
    let room : nat_le (length (changed c.args.self.now.streams c.args.change.now.streams.items c.args.change.now.removed.items)) MOST_STREAMS ≡ true =
    subst (λ ss. nat_le (length (changed ss c.args.change.now.streams.items c.args.change.now.removed.items)) MOST_STREAMS ≡ true) (sym c.requires.1.streams_are) p.room in
    grind (arith, nat_tests, room)

pub configured-requires-clause-set : goal.configured-requires-clause-set
configured-requires-clause-set c =
    let p : HasPassed (standing c.requires.0) c.args.change.now = has-passed (standing c.requires.0) c.args.change.now (sym (c.in_ok-fault.ensures c.requires.0 c.requires.1) ∙ c.in_default.is) in
    subst (λ t. AreSettings (settings_after t c.args.change.now)) (sym (ap (λ (y : Parts). y.settings) c.move_to-2.ensures ∙ c.requires.1.set)) (settings-pass (standing c.requires.0) c.args.change.now p c.requires.1.laws.set)

pub configured-requires-clause-start : goal.configured-requires-clause-start
configured-requires-clause-start c =
    start-passes (standing c.requires.0) c.args.change.now (has-passed (standing c.requires.0) c.args.change.now (sym (c.in_ok-fault.ensures c.requires.0 c.requires.1) ∙ c.in_default.is))

pub configured-requires-clause-plans : goal.configured-requires-clause-plans
configured-requires-clause-plans c =
    let p : HasPassed (standing c.requires.0) c.args.change.now = has-passed (standing c.requires.0) c.args.change.now (sym (c.in_ok-fault.ensures c.requires.0 c.requires.1) ∙ c.in_default.is) in
    let counted : (standing c.requires.0).waiting ≡ count_by waits c.reserve.new.self.items =
    ap (λ cs. count_by waits cs) (sym c.requires.1.clusters.are ∙ sym c.reserve.ensures.items) in
    let can : CanPlan c.reserve.new.self (plans (standing c.requires.0).started c.args.change.now) =
    can-plan (standing c.requires.0) c.args.change.now c.reserve.new.self p counted c.in_ok-reserve.ensures.room in
    subst (λ cs. CanPlan cs (plans c.move_to-2.new.self.started c.args.change.now)) (sym (ap (λ (y : Parts). y.clusters) c.move_to-2.ensures))
    (subst (λ b. CanPlan c.reserve.new.self (plans b c.args.change.now)) (sym (ap (λ (y : Parts). y.started) c.move_to-2.ensures ∙ c.requires.1.was_started)) can)

pub returns-clause-answer : goal.returns-clause-answer
returns-clause-answer c = λ h s.
    let early : c.args.at ≤ GREATEST_MOMENT = omega arith in
    configured-answer h c.args.self.now c.move_to-2.new.self c.configured.new.self c.args.at c.args.change.now c.in_ok-fault.fault c.in_ok-streams.streams c.reserve.new.self c.configured.result s early
    c.move_to-2.ensures (c.in_ok-fault.ensures h s) c.in_default.is c.in_ok-streams.ensures c.configured.ensures.configures

pub returns-clause-steps : goal.returns-clause-steps
returns-clause-steps c =
    let early : c.args.at ≤ GREATEST_MOMENT = omega arith in
    steps_configured c.requires.0 c.args.self.now c.move_to-2.new.self c.configured.new.self c.args.at c.args.change.now c.in_ok-streams.streams c.reserve.new.self c.configured.result c.requires.1 early
    c.move_to-2.ensures c.reserve.ensures.items c.in_ok-streams.ensures c.configured.ensures.configures
