use Rattle.std.proofs.Common.{◌≡◌}
use Rattle.turn_lock.specs.Names.{names, all_names}
use Rattle.turn_lock.proofs.tests.full_history.Given as goal

abbrev pub invariant-loop : goal.invariant-loop
invariant-loop g l = names l.seats.items ≡ all_names l.turn.of l.turn.seats
