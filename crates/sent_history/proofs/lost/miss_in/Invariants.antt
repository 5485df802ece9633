use Rattle.std.proofs.Common.{◌≡◌, ℕ, ◌-◌, ◌<◌, ◌≤◌, length, slice_index_or}
use Rattle.sent_history.specs.declared.slot.Slot.{Slot}
use Rattle.sent_history.specs.Stretches.{Agrees, missed}
use Rattle.sent_history.proofs.lost.miss_in.Given as goal

-- the slots up to a place are marked, and the others are as they were
abbrev pub invariant-loop-at : goal.invariant-loop-at
invariant-loop-at l = record {
  low : l.from ≤ l.at;
  high : l.at ≤ l.to;
  same_length : length l.slots ≡ length l.initial.slots;
  named : (k : ℕ) (d : Slot) → l.from ≤ k → k < l.at → Agrees (slice_index_or l.slots k d) (missed (slice_index_or l.initial.slots k d));
  before : (k : ℕ) (d : Slot) → k < l.from → slice_index_or l.slots k d ≡ slice_index_or l.initial.slots k d;
  behind : (k : ℕ) (d : Slot) → l.at ≤ k → slice_index_or l.slots k d ≡ slice_index_or l.initial.slots k d;
}

abbrev pub decreases-loop-at : goal.decreases-loop-at
decreases-loop-at l = l.to - l.at
