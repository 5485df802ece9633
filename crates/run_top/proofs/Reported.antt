-- The received statuses of reports, counted report by report.
use Rattle.std.proofs.Common.{◌≡◌, ℕ, ◌+◌, ◌<◌, cond, List, ◌∷◌, length, map, drop, get_or, count_by, ap, arith}
use Rattle.std.specs.List.{flat_map}
use Rattle.std.proofs.lemmas.List.{drop_more}
use Rattle.std.proofs.lemmas.List.Sums.{sum_by-append}
use Rattle.twcc_report.specs.declared.report.Status.{Status}
use Rattle.twcc_report.specs.declared.report.Report.{Report}
use Rattle.twcc_report.specs.Spelling.{view}
use Rattle.sent_history.specs.Crediting.{is_received}
use Rattle.run_top.specs.Looped.{reported, statuses_of}

-- the statuses of the next report are counted, and those of the others are left
pub reported_next : (count here next all : ℕ) (reports : List Report) (i : ℕ) (d : Report) → i < length reports
    → here ≡ count_by is_received (get_or reports i d).statuses.items → next ≡ count + here
    → count + reported (map view (drop i reports)) ≡ all → next + reported (map view (drop (i + 1) reports)) ≡ all
reported_next count here next all reports i d below is more so_far =
    let split : reported (map view (drop i reports)) ≡ reported (map view (get_or reports i d ∷ drop (i + 1) reports)) =
    ap (λ (rs : List Report). reported (map view rs)) (drop_more reports i d below) in
    let sum = sum_by-append (λ (s : Status). cond (is_received s) 1 0) (get_or reports i d).statuses.items (flat_map statuses_of (map view (drop (i + 1) reports))) in
    omega (arith, split, sum, is, more, so_far)
