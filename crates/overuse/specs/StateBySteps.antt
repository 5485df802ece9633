-- The steps that a detector was given.
use Rattle.std.specs.Prelude.{◌≡◌, ℕ, ◌+◌, ◌≤◌, List, sum_by}
use Rattle.gcc_units.specs.declared.limits.TheConstants.{GREATEST_MOMENT}
use Rattle.overuse.specs.Detector.{Step, State, detector_state}

-- The detector was given these steps.
abbrev pub StandsFor : State → List Step → Type 0
StandsFor s steps = s ≡ detector_state steps

-- all send gaps together
abbrev pub total_gap : List Step → ℕ
total_gap steps = sum_by (λ (x : Step). x.sample.send_gap) steps

-- With this gap, the send gaps that it was given sum to no more than the greatest moment.
abbrev pub StandsForRoom : State → ℕ → Type 0
StandsForRoom s send_gap = (steps : List Step) × StandsFor s steps × (total_gap steps + send_gap ≤ GREATEST_MOMENT)

-- after each list of steps the time above the threshold is at most all send gaps together
abbrev pub TimesStayLow : Type 0
TimesStayLow = (steps : List Step) → (detector_state steps).time ≤ total_gap steps
