use Rattle.allocator.proofs.InOrder.{in_order_sorts, IsPermutation-in_order}
use Rattle.allocator.proofs.laws.streams_are_in_order.Goals as goal

pub returns-clause-same : goal.returns-clause-same
returns-clause-same c = λ streams. IsPermutation-in_order streams

pub returns-clause-order : goal.returns-clause-order
returns-clause-order c = λ streams set. in_order_sorts streams set.rising
