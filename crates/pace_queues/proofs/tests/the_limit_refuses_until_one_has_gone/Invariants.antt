use Rattle.std.proofs.Common.{All}
use Rattle.pace_queues.specs.Waiting.{HasIndexBelow}
use Rattle.pace_queues.proofs.tests.the_limit_refuses_until_one_has_gone.Given as goal

abbrev pub invariant-loop-index : goal.invariant-loop-index
invariant-loop-index g l = All (HasIndexBelow l.index) l.queues
