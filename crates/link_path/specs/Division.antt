-- How a receiver divides what it tells of packets into reports (this project's own rule).
use Rattle.std.specs.Prelude.{ℕ, pos, ◌+◌, ◌-◌, ◌*◌, ◌/◌, ◌%◌, Bool, nat_le, nat_lt, ◌||◌, if◌then◌else◌, Option, Some, None, List, [], ◌∷◌, ◌++◌, length, fold}
use Rattle.std.specs.List.{flat_map}
use Rattle.gcc_units.specs.Walk.{each_by}
use Rattle.gcc_units.specs.declared.limits.TheConstants.{MOST_STATUSES}
use Rattle.twcc_report.specs.Spelling.{Feedback}
use Rattle.twcc_report.specs.declared.report.Status.{Status}
use Rattle.twcc_report.specs.declared.report.Status.TheVariants.{NotReceived, Small, Large}
use Rattle.link_path.specs.declared.TheConstants.{GREATEST_DELTA, GREATEST_SMALL_DELTA, RECEIVER, MEDIA}

-- neighbouring numbers: when each one arrived, in quarter-milliseconds, or that it did not
abbrev pub Run : Type 0
Run = List (Option ℕ)

-- ---- arrivals in a run

abbrev pub time_after : ℕ → Option ℕ → ℕ
time_after time None = time
time_after time (Some arrival) = arrival

-- the last arrival in a run, or this one where there is none
abbrev pub last_time : ℕ → Run → ℕ
last_time time run = fold time_after time run

-- the first one
abbrev pub first_time : ℕ → Run → ℕ
first_time time [] = time
first_time time (None ∷ run) = first_time time run
first_time time (Some arrival ∷ run) = arrival

-- ---- the division into runs

-- the number arrived too long after the last one in the run for a delta to tell
abbrev pub is_far : Run → Option ℕ → Bool
is_far run None = nat_lt GREATEST_DELTA 0
is_far run (Some arrival) = nat_lt GREATEST_DELTA (arrival - last_time arrival run)

-- A run ends before a number where it is full, and where the number arrived too long after.
abbrev pub begins : Run → Option ℕ → Bool
begins run there = nat_le MOST_STATUSES (length run) || is_far run there

-- the runs that ended, and the last one
pub record Division : Type 0 where
  pub ended : List Run
  pub last : Run

abbrev pub placed : Division → Option ℕ → Division
placed d there =
    if begins d.last there then record { ended = d.ended ++ d.last ∷ []; last = there ∷ [] }
    else record { ended = d.ended; last = d.last ++ there ∷ [] }

abbrev pub divided : List (Option ℕ) → Division
divided numbers = fold placed (record { ended = []; last = [] }) numbers

abbrev pub runs_with : List Run → Run → List Run
runs_with ended [] = ended
runs_with ended (there ∷ run) = ended ++ (there ∷ run) ∷ []

-- all numbers, divided into runs
abbrev pub runs_of : List (Option ℕ) → List Run
runs_of numbers = runs_with (divided numbers).ended (divided numbers).last

-- ---- the report on a run

abbrev pub delta_status : ℕ → Status
delta_status delta = if nat_le delta GREATEST_SMALL_DELTA then Small delta else Large (pos delta)

-- the status of a number, where the delta counts from a time
abbrev pub status_at : ℕ → Option ℕ → Status
status_at time None = NotReceived
status_at time (Some arrival) = delta_status (arrival - time)

-- the first delta counts from a time, each other one from the arrival before it
abbrev pub statuses : ℕ → Run → List Status
statuses time [] = []
statuses time (there ∷ run) = status_at time there ∷ statuses (time_after time there) run

-- what was told before a list of reports: so many reports, all numbers below one, and the last arrival
pub record Told : Type 0 where
  pub reports : ℕ
  pub numbers : ℕ
  pub last : ℕ

abbrev pub numbers_in : List Run → Run
numbers_in runs = flat_map (λ (run : Run). run) runs

-- the units of 64 milliseconds up to the first arrival in the run, or up to the last one before it where it has none
abbrev pub reference_of : Told → List Run → Run → ℕ
reference_of told before run = first_time (last_time told.last (numbers_in before)) run / 256

-- the report on a run, after these runs
abbrev pub report_of : Told → List Run → Run → Feedback
report_of told before run =
    record {
      sender = RECEIVER;
      media = MEDIA;
      base = (told.numbers + length (numbers_in before)) % 65536;
      reference = pos (reference_of told before run);
      feedback = (told.reports + length before) % 256;
      statuses = statuses (256 * reference_of told before run) run;
    }

-- one report a run
abbrev pub reports_on : Told → List Run → List Feedback
reports_on told runs = each_by (report_of told) [] runs
