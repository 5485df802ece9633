use Rattle.std.proofs.Common.{◌≡◌, ℕ, ◌+◌, ◌-◌, ◌<◌, length, replicate, slice_index_or}
use Rattle.twcc_report.specs.declared.report.Status.TheVariants.{NotReceived}
use Rattle.sent_history.specs.declared.slot.Slot.{Slot}
use Rattle.sent_history.specs.Judging.{all_marks}
use Rattle.sent_history.specs.Stretches.{Agrees}
use Rattle.sent_history.proofs.lost.mark_lost.Given as goal

-- the marks to come on a slot as it is now are all marks on the slot as it was
abbrev pub invariant-loop-left : goal.invariant-loop-left
invariant-loop-left l = record {
  same_length : length l.slots ≡ length l.initial.slots;
  to_come : (k : ℕ) (d : Slot) → k < length l.slots
      → Agrees (all_marks l.sent l.next (replicate l.left NotReceived) (l.sent - length l.slots + k) (slice_index_or l.slots k d))
      (all_marks l.sent l.low (replicate l.count NotReceived) (l.sent - length l.slots + k) (slice_index_or l.initial.slots k d));
}

abbrev pub decreases-loop-left : goal.decreases-loop-left
decreases-loop-left l = l.left
