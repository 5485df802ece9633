-- Numbers that are named one after the other.
use Rattle.std.specs.Prelude.{◌≡◌, ℕ, ◌<◌, List, [], ◌∷◌, ◌++◌, length, slice_index_or, Bool, false}
use Rattle.nack_rtx.specs.Naming.{has, first_at}

-- one number more, where it is not there yet
abbrev pub with_number : List ℕ → ℕ → List ℕ
with_number there n = there ++ first_at there n

abbrev pub adding : List ℕ → List ℕ → List ℕ
adding there [] = there
adding there (n ∷ numbers) = adding (with_number there n) numbers

-- The flags say of each number of 16 bits whether it is there.
pub record AreSeen (there : List ℕ) (seen : List Bool) : Type 0 where
  pub all : length seen ≡ 65536
  pub flags : (n : ℕ) → n < 65536 → slice_index_or seen n false ≡ has there n
