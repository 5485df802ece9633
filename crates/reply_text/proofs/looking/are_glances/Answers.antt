use Rattle.std.proofs.Common.{◌≡◌, true, false, sym, ◌∙◌, arith, length}
use Rattle.std.proofs.lemmas.Bool.{eqb-true, eq-eqb}
use Rattle.reply_text.proofs.AllGlances.{found_none, found_more, all_found, found_all}
use Rattle.reply_text.proofs.looking.are_glances.Goals as goal

pub returns-in_default : goal.returns-in_default
returns-in_default c = (
  λ wrong. absurd (let w : false ≡ true = wrong in cc),
  λ t. absurd (found_none c.args.served.now.sender c.args.lines.now c.args.actors c.args.glances.now c.loop-actor.actor c.loop-actor.rest.now c.loop-actor-test.true c.loop-actor.invariant c.in_default.ensures.none t),
)

pub loop-actor-preserved : goal.loop-actor-preserved
loop-actor-preserved c =
    found_more c.args.served.now.sender c.args.lines.now c.args.actors c.args.glances.now c.loop-actor.actor c.loop-actor.rest.now c.in-Some.others.now c.loop-actor-test.true c.loop-actor.invariant c.in-Some.ensures.some

pub returns : goal.returns
returns c =
    let at = c.loop-actor-test.false in (
      λ is. all_found c.args.served.now.sender c.args.lines.now c.args.actors c.args.glances.now c.loop-actor.actor c.loop-actor.rest.now (omega (arith, c.loop-actor.auto.actor-end)) c.loop-actor.invariant
          (eqb-true (length c.loop-actor.rest.now) 0 (sym c.is_empty.ensures ∙ is)),
      λ t. c.is_empty.ensures ∙ eq-eqb (length c.loop-actor.rest.now) 0
          (found_all c.args.served.now.sender c.args.lines.now c.args.actors c.args.glances.now c.loop-actor.actor c.loop-actor.rest.now (omega (arith, c.loop-actor.auto.actor-end)) c.loop-actor.invariant t),
    )
