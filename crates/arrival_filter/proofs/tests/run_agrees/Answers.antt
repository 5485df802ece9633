use Rattle.std.proofs.Common.{ℕ, List, [], ◌∷◌, ◌++◌, ◌≡◌, ◌+◌, length, arith, length-append}
use Rattle.gcc_units.specs.declared.shared_types.Sample.{Sample}
use Rattle.arrival_filter.specs.Filter.{State}
use Rattle.arrival_filter.specs.StateBySamples.{StandsFor}
use Rattle.arrival_filter.proofs.tests.run_agrees.Goals as goal

one_more : (old now : State) (sample : Sample) (n : ℕ) → ((xs : List Sample) → StandsFor old xs → StandsFor now (xs ++ sample ∷ []))
    → (samples : List Sample) → StandsFor old samples → length samples ≡ n
    → (xs : List Sample) × StandsFor now xs × (length xs ≡ n + 1)
one_more old now sample n step samples stands e =
    (samples ++ sample ∷ [], step samples stands, omega (arith, length-append samples (sample ∷ [])))

pub loop-row-preserved : goal.loop-row-preserved
loop-row-preserved g c =
    one_more _ _ _ _ c.step.ensures.stands c.loop-row.invariant.0 c.loop-row.invariant.1 c.loop-row.invariant.2
