use Rattle.std.proofs.Common.{◌≡◌, pos, neg_ℤ, ◌+◌, ◌*◌, ◌^◌, ◌≤ℤ◌, ◌++◌, List, drop}
use Rattle.sent_history.specs.declared.slot.Verdict.{Verdict}
use Rattle.sent_history.specs.Crediting.{findings}
use Rattle.sent_history.specs.Judging.{running, slot_verdict}
use Rattle.sent_history.proofs.finding.findings_of.Given as goal

-- what was found is of some verdicts, and with those to come they are all
abbrev pub invariant-loop-status : goal.invariant-loop-status
invariant-loop-status l =
    ((before : List Verdict) × (l.found.items ≡ findings before) × (l.found.spare ≡ 0)
    × (before ++ running (slot_verdict l.slots l.sent) l.sent l.low l.arrival (drop l.status-index l.statuses)
    ≡ running (slot_verdict l.slots l.sent) l.sent l.base l.start l.statuses))
    × (neg_ℤ (pos (2 ^ 61 + 2 ^ 31 + 32768 * l.status-index)) ≤ℤ l.arrival) × (l.arrival ≤ℤ pos (2 ^ 61 + 2 ^ 31 + 32768 * l.status-index))
