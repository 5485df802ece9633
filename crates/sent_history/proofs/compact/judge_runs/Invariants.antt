use Rattle.std.proofs.Common.{◌≡◌, pos, neg_ℤ, ◌+◌, ◌-◌, ◌*◌, ◌^◌, ◌≤◌, ◌≤ℤ◌, ◌++◌, List, length, count_by, drop, All}
use Rattle.twcc_report.specs.Runs.{expanded}
use Rattle.sent_history.specs.declared.slot.Verdict.{Verdict}
use Rattle.sent_history.specs.Crediting.{is_received, told, credits_in, ArrivesInRange}
use Rattle.sent_history.specs.Judging.{running, settled, slot_verdict}
use Rattle.sent_history.proofs.compact.judge_runs.Given as goal

-- what was told, and the verdicts to come, are all verdicts; and there is room for the credits to come
abbrev pub invariant-loop-run : goal.invariant-loop-run
invariant-loop-run l = record {
  all : (before : List Verdict) × (settled l.judged ≡ told before)
      × (length before + length (expanded (drop l.run-index l.runs)) ≡ length (expanded l.runs))
      × (before ++ running (slot_verdict l.slots l.sent) l.sent l.low l.arrival (expanded (drop l.run-index l.runs))
      ≡ running (slot_verdict l.slots l.sent) l.sent l.base l.start (expanded l.runs))
      × All ArrivesInRange (credits_in before);
  early : neg_ℤ (pos (2 ^ 61 + 2 ^ 31 + 32768 * (length (expanded l.runs) - length (expanded (drop l.run-index l.runs))))) ≤ℤ l.arrival;
  late : l.arrival ≤ℤ pos (2 ^ 61 + 2 ^ 31 + 32768 * (length (expanded l.runs) - length (expanded (drop l.run-index l.runs))));
  room : count_by is_received (expanded (drop l.run-index l.runs)) ≤ l.judged.received.spare;
}
