use Rattle.std.proofs.Common.{refl}
use Rattle.allocator.proofs.Changed.{IsStreamSet-none}
use Rattle.allocator.proofs.InOrder.{in_order-none}
use Rattle.allocator.proofs.Walk.{AreBreakpoints-none}
use Rattle.allocator.proofs.set.StreamSet.new.Goals as goal

pub invariant_of-result : goal.invariant_of-result
invariant_of-result c = rw (c.new.ensures.items, c.new-2.ensures.items, c.new-3.ensures.items, in_order-none) (IsStreamSet-none, refl, AreBreakpoints-none)
