use Rattle.std.proofs.Common.{◌≡◌, ℕ, ◌-◌, ◌<◌, ◌≤◌}
use Rattle.sent_history.specs.Fresh.{bit_of}
use Rattle.sent_history.proofs.place_set.PlaceSet.first.Given as goal

-- no place was found yet
abbrev pub invariant-loop-at : goal.invariant-loop-at
invariant-loop-at l = record { low : l.from ≤ l.at; none : (k : ℕ) → l.from ≤ k → k < l.at → bit_of l.self k ≡ 0 }

abbrev pub decreases-loop-at : goal.decreases-loop-at
decreases-loop-at l = l.to - l.at
