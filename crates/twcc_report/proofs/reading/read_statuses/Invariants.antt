use Rattle.std.proofs.Common.{◌≡◌, length, drop, vec_capacity}
use Rattle.twcc_report.specs.Reading.{statuses_at}
use Rattle.twcc_report.specs.Runs.{with_front}
use Rattle.twcc_report.proofs.reading.read_statuses.Given as goal

-- what was read, and what the rest gives, is what all gives
abbrev pub invariant-loop-symbol : goal.invariant-loop-symbol
invariant-loop-symbol l =
    (with_front l.statuses.items (statuses_at (drop l.symbol-index l.symbols) l.rest) ≡ statuses_at l.symbols l.bytes)
    × (length l.statuses.items ≡ l.symbol-index) × (vec_capacity l.statuses ≡ length l.symbols)
