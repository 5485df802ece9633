use Rattle.std.proofs.Common.{◌≡◌, ◌++◌, take}
use Rattle.std.specs.List.{flat_map, AllByRecursion}
use Rattle.twcc_report.specs.Spelling.{StatusFits, delta}
use Rattle.twcc_report.proofs.writing.push_deltas.Given as goal

-- the deltas so far
abbrev pub invariant-loop-status : goal.invariant-loop-status
invariant-loop-status l =
    (l.bytes.items ≡ l.fn.bytes.items ++ flat_map delta (take l.status-index l.statuses)) × AllByRecursion StatusFits (take l.status-index l.statuses)
