use Rattle.std.proofs.Common.{◌≡◌, ◌+◌, ◌-◌, ◌≤◌}
use Rattle.sent_history.specs.Fresh.{fresh_in}
use Rattle.sent_history.proofs.lost.missing_in.Given as goal

-- what was counted, and what is still to be counted
abbrev pub invariant-loop-at : goal.invariant-loop-at
invariant-loop-at l = record {
  low : l.from ≤ l.at;
  high : l.at ≤ l.to;
  few : l.count ≤ l.at - l.from;
  all : l.count + fresh_in l.slots l.at (l.to - l.at) ≡ fresh_in l.slots l.from (l.to - l.from);
}

abbrev pub decreases-loop-at : goal.decreases-loop-at
decreases-loop-at l = l.to - l.at
