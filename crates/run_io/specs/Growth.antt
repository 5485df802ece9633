-- What was written, where it is told: all of a text, or a beginning of it.
use Rattle.std.specs.Prelude.{◌≡◌, ℕ, Option, None, Some, List, ◌++◌}

-- where it is told, the list grew by these bytes
abbrev pub Grew : Option (List ℕ) → Option (List ℕ) → List ℕ → Type 0
Grew None None bytes = Unit {0}
Grew (Some before) (Some now) bytes = now ≡ before ++ bytes
Grew None (Some now) bytes = ⊥
Grew (Some before) None bytes = ⊥

abbrev pub IsPrefixOf : List ℕ → List ℕ → Type 0
IsPrefixOf xs ys = (rest : List ℕ) × (xs ++ rest ≡ ys)

-- where it is told, the list grew by a beginning of these bytes
abbrev pub GrewInPart : Option (List ℕ) → Option (List ℕ) → List ℕ → Type 0
GrewInPart before now bytes = (part : List ℕ) × IsPrefixOf part bytes × Grew before now part
