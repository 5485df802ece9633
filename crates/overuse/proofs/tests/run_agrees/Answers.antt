use Rattle.std.proofs.Common.{ℕ, List, [], ◌∷◌, ◌++◌, ◌+◌, ◌*◌, ◌≤◌, arith}
use Rattle.std.proofs.lemmas.List.Sums.{sum_by-append}
use Rattle.overuse.specs.Detector.{Step, State}
use Rattle.overuse.specs.StateBySteps.{StandsFor, total_gap}
use Rattle.overuse.proofs.tests.run_agrees.Goals as goal

one_more : (old now : State) (x : Step) (n : ℕ) → x.sample.send_gap ≤ 100000000 → ((xs : List Step) → StandsFor old xs → StandsFor now (xs ++ x ∷ []))
    → (steps : List Step) → StandsFor old steps → total_gap steps ≤ 100000000 * n
    → (xs : List Step) × StandsFor now xs × (total_gap xs ≤ 100000000 * (n + 1))
one_more old now x n short step steps stands low =
    (steps ++ x ∷ [], step steps stands, omega (arith, sum_by-append (λ (y : Step). y.sample.send_gap) steps (x ∷ [])))

pub loop-row-preserved : goal.loop-row-preserved
loop-row-preserved g c =
    one_more _ _ _ _ (omega arith) c.step.ensures.stands c.loop-row.invariant.0 c.loop-row.invariant.1 c.loop-row.invariant.2
