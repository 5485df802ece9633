use Rattle.std.proofs.Common.{◌≡◌, drop}
use Rattle.twcc_report.specs.Reading.{statuses_at}
use Rattle.twcc_report.specs.Runs.{expanded, all_symbols_of, with_front}
use Rattle.twcc_report.proofs.runs.read_status_runs.Given as goal

-- what was read, and what the rest gives, is what all gives
abbrev pub invariant-loop-symbol : goal.invariant-loop-symbol
invariant-loop-symbol l =
    with_front (expanded l.runs.items) (statuses_at (all_symbols_of (drop l.symbol-index l.symbols)) l.rest) ≡ statuses_at (all_symbols_of l.symbols) l.bytes
