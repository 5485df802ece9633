use Rattle.std.proofs.Common.{◌≡◌, ◌<◌, ◌≤◌, length, refl, sym, ◌∙◌, ap, subst, arith, All}
use Rattle.gcc_units.specs.declared.limits.TheConstants.{GREATEST_MOMENT, GREATEST_PACKET}
use Rattle.pace_queues.specs.Waiting.{HasIndexBelow}
use Rattle.send_core.specs.declared.call.Call.TheVariants as call_kind
use Rattle.send_core.specs.declared.parts.Parts.{Parts}
use Rattle.send_core.specs.History.{accepted, waiting}
use Rattle.send_core.specs.declared.counts.TheConstants.{MOST_ACCEPTED}
use Rattle.send_core.proofs.Pushes.{waiting-below}
use Rattle.send_core.proofs.StepsMade.{steps_late, steps_refused, steps_full, steps_accepted, place_of-small}
use Rattle.send_core.proofs.parts.Parts.enqueue.Goals as goal

pub returns-then-at-gt-GREATEST_MOMENT-clause-steps :
    goal.returns-then-at-gt-GREATEST_MOMENT-clause-steps
returns-then-at-gt-GREATEST_MOMENT-clause-steps c =
    steps_late (call_kind.Enqueue c.args.at c.args.class c.args.wire.now) _ _ c.refuse_late.result c.args.self.now c.refuse_late.new.self
    c.if-at-gt-GREATEST_MOMENT.true c.refuse_late.ensures.reply c.refuse_late.ensures.parts

pub returns-in-Err-clause-steps : goal.returns-in-Err-clause-steps
returns-in-Err-clause-steps c =
    let early : c.args.at ≤ GREATEST_MOMENT = omega arith in
    steps_refused (call_kind.Enqueue c.args.at c.args.class c.args.wire.now) _ _ c.refuse.result c.args.self.now c.move_to.new.self c.refuse.new.self
    early c.refuse.ensures.reply c.move_to.ensures c.refuse.ensures.parts

pub accept-requires-clause-order : goal.accept-requires-clause-order
accept-requires-clause-order c =
    let waits : c.move_to.new.self.pacer.waiting ≡ waiting c.requires.0 = ap (λ (p : Parts). p.pacer.waiting) c.move_to.ensures ∙ c.requires.1.queue in
    let count : c.move_to.new.self.accepted ≡ length (accepted c.requires.0) = ap (λ (p : Parts). p.accepted) c.move_to.ensures ∙ c.requires.1.count in
    subst (λ ts. All (HasIndexBelow c.move_to.new.self.accepted) ts) (sym waits)
    (subst (λ n. All (HasIndexBelow n) (waiting c.requires.0)) (sym count) (waiting-below c.requires.0))

pub accept-requires-clause-size : goal.accept-requires-clause-size
accept-requires-clause-size c =
    let small : length c.as_slice.result.now ≤ GREATEST_PACKET =
    place_of-small c.move_to.new.self.settings.extension_id c.as_slice.result.now c.in_default.field-0.place c.in_default.ensures.place in
    let same : length c.as_slice.result.now ≡ length c.args.wire.now.items = ap length c.as_slice.ensures.items in
    omega (arith, c.len.ensures)

pub returns-in-Err-accept-clause-steps : goal.returns-in-Err-accept-clause-steps
returns-in-Err-accept-clause-steps c =
    let early : c.args.at ≤ GREATEST_MOMENT = omega arith in
    steps_full (call_kind.Enqueue c.args.at c.args.class c.args.wire.now) _ _ c.refuse-in-Err-accept.result c.accept.new.self c.args.self.now c.move_to.new.self c.refuse-in-Err-accept.new.self
    early c.refuse-in-Err-accept.ensures.reply c.move_to.ensures c.in-Err-accept.ensures.full c.refuse-in-Err-accept.ensures.parts

pub overflow_add-self : goal.overflow_add-self
overflow_add-self c =
    let few : length (accepted c.requires.0) < MOST_ACCEPTED = c.requires.2.few_accepted in
    let count : c.move_to.new.self.accepted ≡ length (accepted c.requires.0) = ap (λ (p : Parts). p.accepted) c.move_to.ensures ∙ c.requires.1.count in
    omega arith

pub returns-clause-steps : goal.returns-clause-steps
returns-clause-steps c =
    let early : c.args.at ≤ GREATEST_MOMENT = omega arith in
    steps_accepted c.args.at c.args.class c.args.wire.now c.len.result c.moment.result c.moment-2.result c.move_to.new.self.accepted c.accept.new.self
    c.args.self.now c.move_to.new.self c.tune.new.self early c.len.ensures c.move_to.ensures c.moment.ensures.value refl c.in_default-accept.ensures.ok c.tune.ensures c.moment-2.ensures.value
