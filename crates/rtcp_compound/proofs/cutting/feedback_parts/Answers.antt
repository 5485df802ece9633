use Rattle.std.proofs.Common.{◌-◌, length, refl, sym, subst, ◌∙◌}
use Rattle.gcc_units.specs.Listed.{Listed}
use Rattle.rtcp_compound.specs.declared.cutting.Part.{Part}
use Rattle.rtcp_compound.proofs.SoFar.{IsSoFar, passed_over, found}
use Rattle.rtcp_compound.proofs.cutting.feedback_parts.Goals as goal

pub loop-rest-preserved : goal.loop-rest-preserved
loop-rest-preserved c =
    passed_over c.args.bytes.now c.loop-rest.rest.now c.in-Some.packet.now c.in-Some.behind.now c.loop-rest.parts.items c.loop-rest.invariant c.in-Some.ensures.whole c.in-Some.ensures.packet
    (sym c.is_feedback.ensures ∙ c.if-is_feedback.false)

pub loop-rest-preserved-in-Ok : goal.loop-rest-preserved-in-Ok
loop-rest-preserved-in-Ok c =
    let bytes = c.args.bytes.now in
    let rest = c.loop-rest.rest.now in
    let packet = c.in-Some.packet.now in
    let behind = c.in-Some.behind.now in
    subst (λ (l : Listed Part). IsSoFar bytes l.items behind) (sym c.in-Ok.ensures.ok)
    (found bytes rest packet behind c.loop-rest.parts.items (length bytes - length rest) (length packet) c.loop-rest.invariant c.in-Some.ensures.whole c.in-Some.ensures.packet
    (sym c.is_feedback.ensures ∙ c.if-is_feedback.true) refl refl)
