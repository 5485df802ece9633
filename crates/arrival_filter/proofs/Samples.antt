-- What a filter's state is after a list of samples.
use Rattle.std.proofs.Common.{ℕ, ◌≡◌, ◌+◌, ◌*◌, ◌≤◌, List, [], ◌∷◌, ◌++◌, length, fold, arith, ap, ◌∙◌, sym, refl, ℤ, ◌-ℤ◌}
use Rattle.fixed_math.specs.Power.{power_q30}
use Rattle.std.proofs.lemmas.List.Sums.{fold-append}
use Rattle.gcc_units.specs.declared.shared_types.Sample.{Sample}
use Rattle.arrival_filter.specs.declared.TheConstants.{START_ERROR, PROCESS_NOISE, GREATEST_ERROR, FORGETTING}
use Rattle.arrival_filter.specs.Filter.{State, start, step, last_kept, interval_of, least, bound_of, cut, next_variance, gain, moved, left}
use Rattle.arrival_filter.specs.StateBySamples.{StandsFor, StandsForFew, ErrorsStayLow}
use Rattle.arrival_filter.proofs.Numbers.{left_below}

step_error : (s : State) (sample : Sample) → (step s sample).error ≤ s.error + PROCESS_NOISE
unfolding step
step_error s sample = left_below s.error _

errors_from : (s : State) (samples : List Sample) → (fold step s samples).error ≤ s.error + PROCESS_NOISE * length samples
errors_from s [] = omega arith
errors_from s (sample ∷ samples) = omega (arith, errors_from (step s sample) samples, step_error s sample)

pub errors_stay_low : ErrorsStayLow
errors_stay_low samples = errors_from start samples

pub few_error : (s : State) → StandsForFew s → s.error + PROCESS_NOISE ≤ GREATEST_ERROR
few_error s few = let e : s.error ≤ START_ERROR + PROCESS_NOISE * length few.0 = rw few.1 (errors_stay_low few.0) in omega arith

-- the state after a step, from each number of the step
pub step_is : (s : State) (sample : Sample) (intervals : List ℕ) (alpha bound : ℕ) (residual : ℤ) (variance k : ℕ) (mean : ℤ) (error : ℕ)
    → intervals ≡ last_kept (s.intervals ++ interval_of sample.send_gap ∷ [])
    → alpha ≡ power_q30 FORGETTING (least intervals)
    → bound ≡ bound_of s.variance
    → residual ≡ cut (sample.d -ℤ s.mean) bound
    → variance ≡ next_variance alpha s.variance residual
    → k ≡ gain s.error variance
    → mean ≡ moved s.mean residual k
    → error ≡ left s.error k
    → record { mean = mean; error = error; variance = variance; intervals = intervals } ≡ step s sample
unfolding step
step_is s sample intervals alpha bound residual variance k mean error h1 h2 h3 h4 h5 h6 h7 h8 =
    rw (← h1, ← h2, ← h3, ← h4, ← h5, ← h6, ← h7, ← h8) refl

pub stands_after : (s now : State) (sample : Sample) → now ≡ step s sample → (samples : List Sample) → StandsFor s samples → StandsFor now (samples ++ sample ∷ [])
stands_after s now sample e samples stands = e ∙ ap (λ (old : State). step old sample) stands ∙ sym (fold-append step start samples (sample ∷ []))
