use Rattle.std.proofs.Common.{◌≡◌, ap, length, arith, subst, sym}
use Rattle.allocator.specs.Streams.{IsSound}
use Rattle.allocator.specs.Order.{in_order}
use Rattle.allocator.specs.Breakpoints.{AreBreakpoints}
use Rattle.allocator.proofs.InOrder.{length-in_order, All-in_order}
use Rattle.allocator.proofs.Walk.{breakpoints_within, length-breakpoints}
use Rattle.allocator.proofs.set.StreamSet.breakpoints.Goals as goal

pub returns-clause-few : goal.returns-clause-few
returns-clause-few c =
    let same : length c.deref.result.now ≡ length c.self.inside.points.items = ap length c.deref.ensures.value in
    omega (
      arith,
      length-breakpoints (in_order c.self.inside.by_id.items) c.self.inside.points.items c.self.invariant.2,
      length-in_order c.self.inside.by_id.items,
      c.self.invariant.0.few,
    )

pub returns-clause-within : goal.returns-clause-within
returns-clause-within c =
    breakpoints_within (in_order c.self.inside.by_id.items) c.deref.result.now
    (subst (AreBreakpoints (in_order c.self.inside.by_id.items)) (sym c.deref.ensures.value) c.self.invariant.2)
    (All-in_order IsSound c.self.inside.by_id.items c.self.invariant.0.sound)
