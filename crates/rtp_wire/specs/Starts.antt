-- Where pieces that stand one behind the other begin.
use Rattle.std.specs.Prelude.{ℕ, zero, suc, List, slice_index}

-- where the piece at a place begins
abbrev pub start_at : ℕ → List ℕ → ℕ → ℕ
start_at start ends zero = start
start_at start ends (suc k) = slice_index ends k
