use Rattle.allocator.proofs.Walk.{IsWalk}
use Rattle.allocator.proofs.shares.level_of.Given as goal

abbrev pub invariant-loop-point : goal.invariant-loop-point
invariant-loop-point l = IsWalk l.total l.served l.marks l.points l.point-index l.line.at l.line.rise l.line.fall l.line.constant
