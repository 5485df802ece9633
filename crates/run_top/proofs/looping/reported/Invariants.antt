use Rattle.std.proofs.Common.{◌≡◌, ◌+◌, ◌*◌, ◌≤◌, map, drop}
use Rattle.twcc_report.specs.Spelling.{view}
use Rattle.run_top.specs.Looped.{reported}
use Rattle.run_top.proofs.looping.reported.Given as goal

abbrev pub invariant-loop-report : goal.invariant-loop-report
invariant-loop-report l =
    (l.count + reported (map view (drop l.report-index l.reports)) ≡ reported (map view l.reports))
    × (l.count ≤ 18446744073709551615 * l.report-index)
