use Rattle.std.proofs.Common.{arith}
use Rattle.sent_history.proofs.lost.tell_stretch.Goals as goal

pub overflow_add-place : goal.overflow_add-place
overflow_add-place c = let inside = rw c.in-Some.is at c.requires.inside in omega (arith, inside, c.requires.few)
