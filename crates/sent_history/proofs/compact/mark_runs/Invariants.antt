use Rattle.std.proofs.Common.{◌≡◌, ℕ, ◌+◌, ◌-◌, ◌<◌, length, drop, slice_index_or}
use Rattle.twcc_report.specs.Runs.{expanded}
use Rattle.sent_history.specs.declared.slot.Slot.{Slot}
use Rattle.sent_history.specs.Judging.{all_marks}
use Rattle.sent_history.specs.Stretches.{Agrees}
use Rattle.sent_history.proofs.compact.mark_runs.Given as goal

-- the marks to come on a slot as it is now are all marks on the slot as it was
abbrev pub invariant-loop-run : goal.invariant-loop-run
invariant-loop-run l = record {
  same_length : length l.slots ≡ length l.initial.slots;
  to_come : (k : ℕ) (d : Slot) → k < length l.slots
      → Agrees (all_marks l.sent l.low (expanded (drop l.run-index l.runs)) (l.sent - length l.slots + k) (slice_index_or l.slots k d))
      (all_marks l.sent l.base (expanded l.runs) (l.sent - length l.slots + k) (slice_index_or l.initial.slots k d));
}
