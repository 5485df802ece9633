-- The rule of the overuse detector. Means and thresholds are in Q16 milliseconds.
use Rattle.std.specs.Prelude.{ℕ, ℤ, pos, neg_ℤ, ◌+ℤ◌, ◌-ℤ◌, ◌*ℤ◌, ◌≤ℤ◌, ◌+◌, ◌≤◌, Bool, ◌&&◌, nat_le, int_lt, int_le, if◌then◌else◌, List, [], ◌∷◌, fold, unsigned_abs}
use Rattle.std.specs.Int.{int_min, int_max}
use Rattle.fixed_math.specs.Floor.{floor_div}
use Rattle.gcc_units.specs.declared.shared_types.Sample.{Sample}
use Rattle.gcc_units.specs.declared.shared_types.Signal.{Signal}
use Rattle.gcc_units.specs.declared.shared_types.Signal.TheVariants.{Normal, Over, Under}
use Rattle.gcc_units.specs.declared.limits.TheConstants.{GREATEST_MOMENT}
use Rattle.overuse.specs.declared.TheConstants.{START_THRESHOLD, LEAST_THRESHOLD, GREATEST_THRESHOLD, GREATEST_EXCESS, OVERUSE_TIME, LONGEST_GAP, FALLING_GAIN, RISING_GAIN, GAIN_UNIT}

-- ---- the signal

-- how long the means have been above the threshold, with this one
abbrev pub time_above : ℤ → ℕ → ℤ → ℕ → ℕ
time_above threshold time mean send_gap = if int_lt threshold mean then time + send_gap else 0

-- above the threshold, for long enough, and not falling
abbrev pub is_over : ℤ → ℤ → ℕ → ℤ → Bool
is_over threshold before time mean = int_lt threshold mean && nat_le OVERUSE_TIME time && int_le before mean

abbrev pub signal_at : Bool → ℤ → ℤ → Signal
signal_at over threshold mean = if over then Over else (if int_lt mean (neg_ℤ threshold) then Under else Normal)

-- ---- the threshold

-- how far the mean's size is above the threshold
abbrev pub excess : ℤ → ℤ → ℤ
excess threshold mean = pos (unsigned_abs mean) -ℤ threshold

-- the arrival gap, cut
abbrev pub gap_of : ℤ → ℤ
gap_of arrival_gap = int_max (pos 0) (int_min arrival_gap LONGEST_GAP)

-- the part of the excess that counts: small towards a mean below the threshold, large towards one above it
abbrev pub weight : ℤ → ℤ → ℤ
weight arrival_gap over = if int_lt over (pos 0) then gap_of arrival_gap *ℤ FALLING_GAIN else gap_of arrival_gap *ℤ RISING_GAIN

abbrev pub moved : ℤ → ℤ → ℤ → ℤ
moved threshold over arrival_gap =
    int_max LEAST_THRESHOLD (int_min (threshold +ℤ floor_div (weight arrival_gap over *ℤ over) GAIN_UNIT) GREATEST_THRESHOLD)

-- A mean that lies far above the threshold does not move it.
abbrev pub next_threshold : ℤ → ℤ → ℤ → ℤ
next_threshold threshold mean arrival_gap =
    if int_lt GREATEST_EXCESS (excess threshold mean) then threshold else moved threshold (excess threshold mean) arrival_gap

-- ---- the step

-- a mean of the filter, and the sample that led to it
pub record Step : Type 0 where
  pub mean : ℤ
  pub sample : Sample

-- what the rule keeps: the threshold, the time above it in microseconds, and the mean before
pub record State : Type 0 where
  pub threshold : ℤ
  pub time : ℕ
  pub before : ℤ

abbrev pub start : State
start = record { threshold = START_THRESHOLD; time = 0; before = pos 0 }

abbrev pub time_at : State → Step → ℕ
time_at s x = time_above s.threshold s.time x.mean x.sample.send_gap

abbrev pub over_at : State → Step → Bool
over_at s x = is_over s.threshold s.before (time_at s x) x.mean

-- what a step says of the path
abbrev pub signal_of : State → Step → Signal
signal_of s x = signal_at (over_at s x) s.threshold x.mean

-- the state after one more step
abbrev pub after : State → Step → State
after s x =
    record {
      threshold = next_threshold s.threshold x.mean x.sample.arrival_gap;
      time = if over_at s x then 0 else time_at s x;
      before = x.mean;
    }

-- the state after all these steps
abbrev pub detector_state : List Step → State
detector_state steps = fold after start steps

-- the signals of steps from a state on
abbrev pub signals_from : State → List Step → List Signal
signals_from s [] = []
signals_from s (x ∷ steps) = signal_of s x ∷ signals_from (after s x) steps

-- the signals of all these steps
abbrev pub signals : List Step → List Signal
signals steps = signals_from start steps

-- where the numbers of a state lie
pub record IsInRange (s : State) : Type 0 where
  pub least : LEAST_THRESHOLD ≤ℤ s.threshold
  pub greatest : s.threshold ≤ℤ GREATEST_THRESHOLD
  pub time : s.time ≤ GREATEST_MOMENT
