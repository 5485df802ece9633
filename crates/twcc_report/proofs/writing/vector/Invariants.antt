use Rattle.std.proofs.Common.{◌≡◌, ◌+◌, ◌*◌, ◌^◌, ◌≤◌}
use Rattle.twcc_report.specs.Canonical.{with_digits}
use Rattle.twcc_report.proofs.writing.vector.Given as goal

-- the digits so far
abbrev pub invariant-loop-k : goal.invariant-loop-k
invariant-loop-k l = (l.word ≡ with_digits l.base l.bits l.k l.symbols) × (l.word + 1 ≤ (l.bits + 1) * l.base ^ l.k)
