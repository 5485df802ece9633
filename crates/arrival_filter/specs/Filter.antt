-- The rule of the arrival filter. Q16 means units of 1/65536 millisecond, and for a variance of 1/65536 square millisecond.
use Rattle.std.specs.Prelude.{ℕ, ℤ, pos, neg_ℤ, ◌+ℤ◌, ◌-ℤ◌, ◌≤ℤ◌, ◌+◌, ◌-◌, ◌*◌, ◌/◌, ◌≤◌, min, max, List, [], ◌∷◌, ◌++◌, length, drop, fold, unsigned_abs}
use Rattle.std.specs.Int.{int_min, int_max}
use Rattle.fixed_math.specs.declared.TheConstants.{ONE_Q16, ONE_Q30}
use Rattle.fixed_math.specs.Floor.{product_q16}
use Rattle.fixed_math.specs.Power.{power_q30}
use Rattle.fixed_math.specs.Root.{root}
use Rattle.gcc_units.specs.declared.shared_types.Sample.{Sample}
use Rattle.gcc_units.specs.declared.limits.TheConstants.{GREATEST_DELAY}
use Rattle.arrival_filter.specs.declared.TheConstants.{START_ERROR, PROCESS_NOISE, LEAST_VARIANCE, GREATEST_VARIANCE, GREATEST_ERROR, KEPT_INTERVALS, LONGEST_INTERVAL, FORGETTING, MOST_DEVIATIONS}

-- ---- the send intervals

-- a send gap in whole milliseconds, cut
abbrev pub interval_of : ℕ → ℕ
interval_of send_gap = min (send_gap / 1000) LONGEST_INTERVAL

-- the last ones of these intervals
abbrev pub last_kept : List ℕ → List ℕ
last_kept intervals = drop (length intervals - KEPT_INTERVALS) intervals

-- the least of these intervals, none of which is longer than the longest
abbrev pub least : List ℕ → ℕ
least intervals = fold min LONGEST_INTERVAL intervals

-- ---- the numbers of one step

-- a number cut to the range from -b to b
abbrev pub cut : ℤ → ℕ → ℤ
cut z b = int_max (neg_ℤ (pos b)) (int_min z (pos b))

-- so many standard deviations
abbrev pub bound_of : ℕ → ℕ
bound_of variance = MOST_DEVIATIONS * root (ONE_Q16 * variance)

-- the square of a number in Q16
abbrev pub square : ℤ → ℕ
square z = unsigned_abs z * unsigned_abs z / ONE_Q16

-- the old variance and the square of the residual, weighed by alpha
abbrev pub next_variance : ℕ → ℕ → ℤ → ℕ
next_variance alpha variance residual =
    max ((alpha * variance + (ONE_Q30 - alpha) * square residual) / ONE_Q30) LEAST_VARIANCE

-- how much of the residual the mean takes up
abbrev pub gain : ℕ → ℕ → ℕ
gain error variance = ONE_Q16 * (error + PROCESS_NOISE) / (variance + (error + PROCESS_NOISE))

abbrev pub moved : ℤ → ℤ → ℕ → ℤ
moved mean residual k = mean +ℤ product_q16 residual (pos k)

-- the error that is left
abbrev pub left : ℕ → ℕ → ℕ
left error k = (ONE_Q16 - k) * (error + PROCESS_NOISE) / ONE_Q16

-- ---- the step

-- what the rule keeps: mean, error and variance in Q16, and the last send intervals in milliseconds
pub record State : Type 0 where
  pub mean : ℤ
  pub error : ℕ
  pub variance : ℕ
  pub intervals : List ℕ

abbrev pub start : State
start = record { mean = pos 0; error = START_ERROR; variance = LEAST_VARIANCE; intervals = [] }

-- the state after one more sample
unfoldable pub step : State → Sample → State
step s sample =
    let intervals = last_kept (s.intervals ++ interval_of sample.send_gap ∷ []) in
    let alpha = power_q30 FORGETTING (least intervals) in
    let residual = cut (sample.d -ℤ s.mean) (bound_of s.variance) in
    let variance = next_variance alpha s.variance residual in
    let k = gain s.error variance in
    record { mean = moved s.mean residual k; error = left s.error k; variance = variance; intervals = intervals }

-- the state after all these samples
abbrev pub filter_state : List Sample → State
filter_state samples = fold step start samples

-- where the numbers of a state lie
pub record IsInRange (s : State) : Type 0 where
  pub mean_low : neg_ℤ GREATEST_DELAY ≤ℤ s.mean
  pub mean_high : s.mean ≤ℤ GREATEST_DELAY
  pub least_variance : LEAST_VARIANCE ≤ s.variance
  pub greatest_variance : s.variance ≤ GREATEST_VARIANCE
  pub greatest_error : s.error ≤ GREATEST_ERROR
