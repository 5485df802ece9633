use Rattle.std.proofs.Common.{refl}
use Rattle.pace_queues.specs.Rings.{in_order}
use Rattle.pace_queues.proofs.queues.Queues.new.Goals as goal

pub returns : goal.returns
unfolding in_order
returns c = record { empty = rw (c.in_ok-ring.ensures, c.in_ok-ring-2.ensures, c.in_ok-ring-3.ensures) refl }
