use Rattle.std.proofs.Common.{◌≡◌, ap, ◌∙◌, length, arith}
use Rattle.std.proofs.lemmas.List.Elements.{All-same}
use Rattle.allocator.specs.Streams.{IsSound}
use Rattle.allocator.specs.Order.{in_order}
use Rattle.allocator.proofs.InOrder.{length-in_order, All-in_order}
use Rattle.allocator.proofs.set.StreamSet.in_order.Goals as goal

pub returns-clause-sound : goal.returns-clause-sound
returns-clause-sound c =
    All-same IsSound _ _ (c.deref.ensures.value ∙ c.self.invariant.1) (All-in_order IsSound c.self.inside.by_id.items c.self.invariant.0.sound)

pub returns-clause-few : goal.returns-clause-few
returns-clause-few c =
    let same : length c.deref.result.now ≡ length (in_order c.self.inside.by_id.items) = ap length (c.deref.ensures.value ∙ c.self.invariant.1) in
    omega (arith, length-in_order c.self.inside.by_id.items, c.self.invariant.0.few)
