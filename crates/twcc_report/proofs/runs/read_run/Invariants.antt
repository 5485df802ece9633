use Rattle.std.proofs.Common.{◌≡◌, ◌-◌, replicate}
use Rattle.twcc_report.specs.Reading.{statuses_at}
use Rattle.twcc_report.specs.Runs.{expanded, symbols_of_run, with_front}
use Rattle.twcc_report.proofs.runs.read_run.Given as goal

-- what was read, and what the rest of the run gives, is what the run gives
abbrev pub invariant-loop-k : goal.invariant-loop-k
invariant-loop-k l =
    with_front (expanded l.runs.items) (statuses_at (replicate (l.run.count - l._k) l.run.symbol) l.rest)
    ≡ with_front (expanded l.fn.runs.items) (statuses_at (symbols_of_run l.run) l.bytes)
