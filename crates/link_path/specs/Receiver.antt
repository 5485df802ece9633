-- The receiver: what it tells of the numbers that no list told of before.
use Rattle.std.specs.Prelude.{ℕ, pos, negsuc, ◌+◌, ◌-◌, ◌/◌, ◌%◌, ◌^◌, ◌<◌, ◌≤◌, ◌≤ℤ◌, Some, None, List, [], ◌∷◌, ◌++◌, length, replicate}
use Rattle.gcc_units.specs.declared.limits.TheConstants.{ARRIVAL_MICROSECONDS}
use Rattle.twcc_report.specs.Spelling.{Feedback}
use Rattle.link_path.specs.declared.TheConstants.{GREATEST_TAKEN}
use Rattle.link_path.specs.declared.link.Arrival.{Arrival}
use Rattle.link_path.specs.Division.{Run, Told, last_time, runs_of, reports_on}

-- what is kept: the first number that no list told of, the last arrival told of, the count of the reports so far, modulo 256, and what was
-- taken since the last list
pub record KeptReceiver : Type 0 where
  pub from : ℕ
  pub last : ℕ
  pub feedback : ℕ
  pub taken : List Arrival

-- an arrival in quarter-milliseconds
abbrev pub quarters : Arrival → ℕ
quarters a = a.at / ARRIVAL_MICROSECONDS

-- the numbers from one on up to the greatest taken: each that was taken arrived, any other did not
abbrev pub heard : ℕ → List Arrival → Run
heard from [] = []
heard from (a ∷ later) = (replicate (a.number - from) None ++ Some (quarters a) ∷ []) ++ heard (a.number + 1) later

-- the number behind them
abbrev pub next_from : ℕ → List Arrival → ℕ
next_from from [] = from
next_from from (a ∷ later) = next_from (a.number + 1) later

-- numbers from one on rise, and arrivals are in their range
abbrev pub NumbersRise : ℕ → List Arrival → Type 0
NumbersRise from [] = Unit {0}
NumbersRise from (a ∷ later) = (from ≤ a.number) × (a.at ≤ GREATEST_TAKEN) × NumbersRise (a.number + 1) later

-- and the last arrival that was told of is in its range too
pub record IsReceiver (from last : ℕ) (taken : List Arrival) : Type 0 where
  pub rise : NumbersRise from taken
  pub early : last ≤ GREATEST_TAKEN / ARRIVAL_MICROSECONDS

-- the receiver may take it next
pub record IsNext (now : KeptReceiver) (a : Arrival) : Type 0 where
  pub after : next_from now.from now.taken ≤ a.number
  pub range : a.at ≤ GREATEST_TAKEN

-- what earlier lists told
abbrev pub told_before : KeptReceiver → Told
told_before now = record { reports = now.feedback; numbers = now.from; last = now.last }

-- the next list of reports
abbrev pub next_reports : KeptReceiver → List Feedback
next_reports now = reports_on (told_before now) (runs_of (heard now.from now.taken))

-- what is kept after it
abbrev pub told_all : KeptReceiver → KeptReceiver
told_all now =
    record {
      from = next_from now.from now.taken;
      last = last_time now.last (heard now.from now.taken);
      feedback = (now.feedback + length (runs_of (heard now.from now.taken))) % 256;
      taken = [];
    }

-- the report has a spelling
pub record IsWritable (f : Feedback) : Type 0 where
  pub some : 1 ≤ length f.statuses
  pub few : length f.statuses < 2 ^ 16
  pub low : negsuc 8388607 ≤ℤ f.reference
  pub high : f.reference ≤ℤ pos 8388607
