use Rattle.std.proofs.Common.{◌≤◌}
use Rattle.sender_tests.proofs.shared.entries_of.Given as goal

abbrev pub invariant-loop-k : goal.invariant-loop-k
invariant-loop-k l = l.count ≤ l.k
