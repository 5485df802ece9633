-- The samples that a filter was given.
use Rattle.std.specs.Prelude.{◌≡◌, ◌+◌, ◌*◌, ◌<◌, ◌≤◌, neg_ℤ, ◌≤ℤ◌, List, length}
use Rattle.gcc_units.specs.declared.shared_types.Sample.{Sample}
use Rattle.gcc_units.specs.declared.limits.TheConstants.{GREATEST_DELAY, MOST_PACKETS}
use Rattle.arrival_filter.specs.declared.TheConstants.{START_ERROR, PROCESS_NOISE}
use Rattle.arrival_filter.specs.Filter.{State, filter_state}

-- the delay of the sample is in its range
pub record IsWithin (sample : Sample) : Type 0 where
  pub low : neg_ℤ GREATEST_DELAY ≤ℤ sample.d
  pub high : sample.d ≤ℤ GREATEST_DELAY

-- The filter was given these samples.
abbrev pub StandsFor : State → List Sample → Type 0
StandsFor s samples = s ≡ filter_state samples

-- It was given fewer samples than the most.
abbrev pub StandsForFew : State → Type 0
StandsForFew s = (samples : List Sample) × StandsFor s samples × (length samples < MOST_PACKETS)

-- after each list of samples the error is at most the first one and the noise of each sample
abbrev pub ErrorsStayLow : Type 0
ErrorsStayLow = (samples : List Sample) → (filter_state samples).error ≤ START_ERROR + PROCESS_NOISE * length samples
