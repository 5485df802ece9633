use Rattle.std.proofs.Common.{◌≡◌, ℤ, ◌+◌, ◌++◌, List, length, replicate}
use Rattle.twcc_report.specs.declared.report.Status.TheVariants.{NotReceived}
use Rattle.sent_history.specs.declared.slot.Verdict.{Verdict}
use Rattle.sent_history.specs.Crediting.{told}
use Rattle.sent_history.specs.Judging.{running, settled, slot_verdict}
use Rattle.sent_history.proofs.lost.tell_lost.Given as goal

-- what was told, and the verdicts to come, are all verdicts
abbrev pub invariant-loop-left : goal.invariant-loop-left
invariant-loop-left l = record {
  all : (before : List Verdict) (arrived : ℤ) → settled l.initial.judged ≡ told before → (done : List Verdict)
      × (settled l.judged ≡ told (before ++ done))
      × (length done + l.left ≡ l.count)
      × (done ++ running (slot_verdict l.slots l.sent) l.sent l.next arrived (replicate l.left NotReceived)
      ≡ running (slot_verdict l.slots l.sent) l.sent l.low arrived (replicate l.count NotReceived));
  room : l.judged.received.spare ≡ l.initial.judged.received.spare;
}

abbrev pub decreases-loop-left : goal.decreases-loop-left
decreases-loop-left l = l.left
