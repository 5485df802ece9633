-- The object of the tests: even numbers are added to a total, which is the reply.
use Rattle.std.specs.Prelude.{◌≡◌, ℕ, ◌+◌, ◌%◌, List, [], ◌∷◌}
use Rattle.turn_lock.specs.declared.entry.Entry.{Entry}

-- the total of the calls
abbrev pub total_of : List (Entry ℕ ℕ) → ℕ
total_of [] = 0
total_of (e ∷ es) = e.call + total_of es

-- the calls are even, and each reply is the total with this call
abbrev pub IsAdding : ℕ → List (Entry ℕ ℕ) → Type 0
IsAdding total [] = Unit {0}
IsAdding total (e ∷ es) = (e.call % 2 ≡ 0) × (e.reply ≡ total + e.call) × IsAdding (total + e.call) es
