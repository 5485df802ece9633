use Rattle.std.proofs.Common.{◌≡◌, ◌<◌, length, sym, ◌∙◌, arith}
use Rattle.std.proofs.lemmas.Grind.{common_steps}
use Rattle.rtp_wire.proofs.Walking.{pad, stops_low, stops_high, cut_off, is_there, goes_over, ends}
use Rattle.rtp_wire.proofs.packet.number_place.Goals as goal

pub loop-rest-preserved-then-first-eq0 : goal.loop-rest-preserved-then-first-eq0
loop-rest-preserved-then-first-eq0 c =
    let some : 0 < length c.loop-rest.rest.now = grind (arith, common_steps) in (
      rw c.split_at.ensures.back (sym (pad c.args.id c.loop-rest.at c.loop-rest.rest.now some c.if-first-eq0.true) ∙ c.loop-rest.invariant.0),
      omega arith,
    )

pub returns-then-first-lt16 : goal.returns-then-first-lt16
returns-then-first-lt16 c =
    let some : 0 < length c.loop-rest.rest.now = grind (arith, common_steps) in
    sym (stops_low c.args.id c.loop-rest.at c.loop-rest.rest.now some c.if-first-eq0.false c.if-first-lt16.true) ∙ c.loop-rest.invariant.0

pub returns-then-first-ge240 : goal.returns-then-first-ge240
returns-then-first-ge240 c =
    let some : 0 < length c.loop-rest.rest.now = grind (arith, common_steps) in
    sym (stops_high c.args.id c.loop-rest.at c.loop-rest.rest.now some c.if-first-ge240.true) ∙ c.loop-rest.invariant.0

pub returns-then-behind-len : goal.returns-then-behind-len
returns-then-behind-len c =
    let some : 0 < length c.loop-rest.rest.now = grind (arith, common_steps) in
    sym (cut_off c.args.id c.loop-rest.at c.loop-rest.rest.now some c.if-first-lt16.false c.if-first-ge240.false (omega arith)) ∙ c.loop-rest.invariant.0

pub returns-then-first-id : goal.returns-then-first-id
returns-then-first-id c =
    let some : 0 < length c.loop-rest.rest.now = grind (arith, common_steps) in
    sym (is_there c.args.id c.loop-rest.at c.loop-rest.rest.now some c.if-first-lt16.false c.if-first-ge240.false (omega arith) c.if-first-id.true) ∙ c.loop-rest.invariant.0

pub loop-rest-preserved : goal.loop-rest-preserved
loop-rest-preserved c =
    let some : 0 < length c.loop-rest.rest.now = grind (arith, common_steps) in (
      rw (c.split_at-in-loop-rest.ensures.back, c.split_at.ensures.back)
          (sym (goes_over c.args.id c.loop-rest.at c.loop-rest.rest.now some c.if-first-lt16.false c.if-first-ge240.false (omega arith) c.if-first-id.false)
          ∙ c.loop-rest.invariant.0),
      omega arith,
    )

pub returns : goal.returns
returns c =
    let none : length c.loop-rest.rest.now ≡ 0 = grind (arith, common_steps) in
    sym (ends c.args.id c.loop-rest.at c.loop-rest.rest.now none) ∙ c.loop-rest.invariant.0
