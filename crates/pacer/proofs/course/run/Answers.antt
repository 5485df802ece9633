use Rattle.std.proofs.Common.{◌≡◌, ◌+◌, ◌<◌, ◌≤◌, [], ◌∷◌, ◌++◌, ◌-◌, length, sym, ◌∙◌, ap, subst, arith, length-append}
use Rattle.gcc_units.specs.Listed.{Listed}
use Rattle.gcc_units.specs.declared.limits.TheConstants.{MOST_SENDS}
use Rattle.pacer.specs.declared.sent.Sent.{Sent}
use Rattle.pacer.specs.Course.{standing}
use Rattle.pacer.proofs.PaceLoop.{IsUnderWay, under_way-more, under_way-stopped, under_way-ended, room-now, lower-now}
use Rattle.pacer.proofs.course.run.Goals as goal

pub returns-in_default-clause-records : goal.returns-in_default-clause-records
returns-in_default-clause-records c =
    (under_way-stopped c.args.terms _ (standing c.loop-number.course c.loop-number.clusters.items c.loop-number.number) c.loop-number.out.items c.loop-number.invariant.0
    (sym c.choose.ensures ∙ c.in_default.is)).records

pub returns-in_default-clause-queue : goal.returns-in_default-clause-queue
returns-in_default-clause-queue c =
    (under_way-stopped c.args.terms _ (standing c.loop-number.course c.loop-number.clusters.items c.loop-number.number) c.loop-number.out.items c.loop-number.invariant.0
    (sym c.choose.ensures ∙ c.in_default.is)).queue

pub carry_out-requires-clause-room : goal.carry_out-requires-clause-room
carry_out-requires-clause-room c =
    let below : length c.loop-number.out.items < MOST_SENDS = omega (arith, c.from.ensures, c.loop-number.invariant.2, c.loop-number.invariant.3) in
    room-now c.args.terms _ (standing c.loop-number.course c.loop-number.clusters.items c.loop-number.number) c.loop-number.out.items c.loop-number.invariant.0 below c.requires.clusters

pub carry_out-requires-clause-few : goal.carry_out-requires-clause-few
carry_out-requires-clause-few c =
    let below : length c.loop-number.out.items < MOST_SENDS = omega (arith, c.from.ensures, c.loop-number.invariant.2, c.loop-number.invariant.3) in
    lower-now c.args.terms _ (standing c.loop-number.course c.loop-number.clusters.items c.loop-number.number) c.loop-number.out.items c.loop-number.invariant.0 below c.requires.few

pub loop-number-preserved : goal.loop-number-preserved
loop-number-preserved c =
    let below : length c.loop-number.out.items < MOST_SENDS = omega (arith, c.from.ensures, c.loop-number.invariant.2, c.loop-number.invariant.3) in
    let items : c.put.new.self.items ≡ c.loop-number.out.items ++ c.in-Some.sent ∷ [] = ap (λ (v : Listed Sent). v.items) c.put.ensures in
    let spare : c.put.new.self.spare ≡ c.loop-number.out.spare - 1 = ap (λ (v : Listed Sent). v.spare) c.put.ensures in
    let longer : length c.put.new.self.items ≡ length c.loop-number.out.items + 1 = ap length items ∙ length-append c.loop-number.out.items (c.in-Some.sent ∷ []) in (
      subst (IsUnderWay c.args.terms (standing c.args.course.now c.args.clusters.now.items c.args.first) (standing c.carry_out.new.course c.carry_out.new.clusters.items (c.loop-number.number + 1))) (sym items)
          (under_way-more c.args.terms _ (standing c.loop-number.course c.loop-number.clusters.items c.loop-number.number) c.loop-number.out.items c.in-Some.sent
          (standing c.carry_out.new.course c.carry_out.new.clusters.items (c.loop-number.number + 1))
          c.loop-number.invariant.0 below (sym c.choose.ensures ∙ c.in-Some.is) c.carry_out.ensures.after c.carry_out.ensures.stands c.carry_out.ensures.reached c.carry_out.ensures.lowered),
      c.carry_out.ensures.fit,
      c.loop-number.invariant.2,
      omega (arith, longer, c.loop-number.invariant.3),
      omega (arith, longer, spare, c.loop-number.invariant.4, c.requires.room, below),
      c.carry_out.ensures.spare ∙ c.loop-number.invariant.5,
    )

pub returns-clause-records : goal.returns-clause-records
returns-clause-records c =
    let past : MOST_SENDS ≤ length c.loop-number.out.items = omega (arith, c.from.ensures, c.loop-number.invariant.2, c.loop-number.invariant.3) in
    (under_way-ended c.args.terms _ (standing c.loop-number.course c.loop-number.clusters.items c.loop-number.number) c.loop-number.out.items c.loop-number.invariant.0 past).records

pub returns-clause-queue : goal.returns-clause-queue
returns-clause-queue c =
    let past : MOST_SENDS ≤ length c.loop-number.out.items = omega (arith, c.from.ensures, c.loop-number.invariant.2, c.loop-number.invariant.3) in
    (under_way-ended c.args.terms _ (standing c.loop-number.course c.loop-number.clusters.items c.loop-number.number) c.loop-number.out.items c.loop-number.invariant.0 past).queue
