-- The division into reports is the one in which a number goes on in the run before it wherever it can.
use Rattle.std.specs.Prelude.{◌≡◌, ℕ, true, false, Option, List, [], ◌∷◌, ◌++◌}
use Rattle.link_path.specs.Division.{Run, begins, numbers_in, runs_of}

-- each of these numbers goes on in the run
abbrev pub GoOn : Run → List (Option ℕ) → Type 0
GoOn run [] = Unit {0}
GoOn run (there ∷ more) = (begins run there ≡ false) × GoOn (run ++ there ∷ []) more

-- a run has a number, and each other one goes on in it
abbrev pub IsRun : Run → Type 0
IsRun [] = ⊥
IsRun (there ∷ more) = GoOn (there ∷ []) more

-- the first number of the next run could not go on in this one
abbrev pub EndsBefore : Run → Run → Type 0
EndsBefore run [] = ⊥
EndsBefore run (there ∷ more) = begins run there ≡ true

abbrev pub IsDivision : List Run → Type 0
IsDivision [] = Unit {0}
IsDivision (r ∷ []) = IsRun r
IsDivision (r ∷ q ∷ runs) = IsRun r × EndsBefore r q × IsDivision (q ∷ runs)

-- the runs, one behind the other, are these numbers, and they are divided so
pub record Divides (runs : List Run) (numbers : List (Option ℕ)) : Type 0 where
  pub divided : IsDivision runs
  pub whole : numbers_in runs ≡ numbers

-- the law: the runs of numbers divide them, and no others do
pub record IsTheOne (numbers : List (Option ℕ)) : Type 0 where
  pub divides : Divides (runs_of numbers) numbers
  pub only : (runs : List Run) → Divides runs numbers → runs ≡ runs_of numbers
