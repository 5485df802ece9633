use Rattle.std.proofs.Common.{◌≡◌, ◌+◌, ◌≤◌, ◌++◌, length, take}
use Rattle.capi.proofs.feedback.append.Given as goal

-- those so far stand at the end, and there is room for the others
abbrev pub invariant-loop-finding : goal.invariant-loop-finding
invariant-loop-finding l =
    (l.findings.items ≡ l.initial.findings.items ++ take l.finding-index l.more) × (length l.more ≤ l.findings.spare + l.finding-index)
