-- What one more number makes of a run, and one more run of the reports.
use Rattle.std.proofs.Common.{◌≡◌, ℕ, suc, ◌-◌, ◌*◌, ◌/◌, ◌≤◌, Option, Some, None, List, [], ◌∷◌, ◌++◌, length, refl, ap, arith}
use Rattle.std.specs.Option.{unwrap_or}
use Rattle.std.proofs.lemmas.List.Sums.{fold-append}
use Rattle.gcc_units.proofs.Walk.{each_by-push, flat_map-push}
use Rattle.twcc_report.specs.declared.report.Status.{Status}
use Rattle.link_path.specs.declared.TheConstants.{GREATEST_DELTA}
use Rattle.link_path.specs.Division.{Run, Told, placed, divided, first_time, last_time, time_after, numbers_in, status_at, statuses, report_of, reports_on}

pub first-missing : (time : ℕ) (run : Run) → first_time time (run ++ None ∷ []) ≡ first_time time run
first-missing time [] = refl
first-missing time (None ∷ run) = first-missing time run
first-missing time (Some arrival ∷ run) = refl

pub first-received : (time : ℕ) (run : Run) (arrival : ℕ) → first_time time (run ++ Some arrival ∷ []) ≡ first_time arrival run
first-received time [] arrival = refl
first-received time (None ∷ run) arrival = first-received time run arrival
first-received time (Some first ∷ run) arrival = refl

pub last-push : (time : ℕ) (run : Run) (there : Option ℕ) → last_time time (run ++ there ∷ []) ≡ time_after (last_time time run) there
last-push time run there = fold-append time_after time run (there ∷ [])

pub statuses-push : (time : ℕ) (run : Run) (there : Option ℕ) → statuses time (run ++ there ∷ []) ≡ statuses time run ++ status_at (last_time time run) there ∷ []
statuses-push time [] there = refl
statuses-push time (here ∷ run) there = ap (λ (xs : List Status). status_at time here ∷ xs) (statuses-push (time_after time here) run there)

-- the last time counts from the first one where there is none
pub last-from-first : (run : Run) (time : ℕ) → last_time (256 * (first_time time run / 256)) run ≡ last_time (256 * (time / 256)) run
last-from-first [] time = refl
last-from-first (None ∷ run) time = last-from-first run time
last-from-first (Some arrival ∷ run) time = refl

pub statuses-length : (time : ℕ) (run : Run) → length (statuses time run) ≡ length run
statuses-length time [] = refl
statuses-length time (there ∷ run) = ap suc (statuses-length (time_after time there) run)

pub near-by : (last : Option ℕ) (time : ℕ) → time - unwrap_or last time ≤ GREATEST_DELTA → time - unwrap_or last (256 * (time / 256)) ≤ GREATEST_DELTA
near-by None time h = omega arith
near-by (Some l) time h = h

pub reports-push : (told : Told) (ended : List Run) (run : Run) → reports_on told (ended ++ run ∷ []) ≡ reports_on told ended ++ report_of told ended run ∷ []
reports-push told ended run = each_by-push (report_of told) [] ended run

pub numbers-push : (ended : List Run) (run : Run) → numbers_in (ended ++ run ∷ []) ≡ numbers_in ended ++ run
numbers-push ended run = flat_map-push (λ (r : Run). r) ended run

pub divided-push : (numbers : List (Option ℕ)) (there : Option ℕ) → divided (numbers ++ there ∷ []) ≡ placed (divided numbers) there
divided-push numbers there = fold-append placed (record { ended = []; last = [] }) numbers (there ∷ [])
