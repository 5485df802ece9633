use Rattle.std.proofs.Common.{length}
use Rattle.turn_lock.proofs.tests.+fn-race-join_mut+arg2+fn-race-join_mut+arg3+race.Given as goal

abbrev pub decreases-join_mut+arg2 : goal.decreases-join_mut+arg2
decreases-join_mut+arg2 g l = length l.front.now

abbrev pub decreases-join_mut+arg3 : goal.decreases-join_mut+arg3
decreases-join_mut+arg3 g l = length l.back.now

abbrev pub decreases-race : goal.decreases-race
decreases-race g l = length l.seats.now
