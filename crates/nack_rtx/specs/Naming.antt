-- The numbers that the pairs of a NACK name (RFC 4585, section 6.2.1).
use Rattle.std.specs.Prelude.{ℕ, ◌+◌, ◌*◌, ◌/◌, ◌%◌, ◌^◌, List, [], ◌∷◌, Bool, ◌==◌, if◌then◌else◌}
use Rattle.std.specs.List.{flat_map, list_any, range_with_len}
use Rattle.gcc_units.specs.Walk.{each_by}

abbrev pub has : List ℕ → ℕ → Bool
has numbers n = list_any (λ m. m == n) numbers

-- the numbers that a pair names: its own, and one for each bit that is set, from the least significant on
unfoldable pub names : ℕ → ℕ → List ℕ
names own bits = own ∷ flat_map (λ i. if bits / 2 ^ i % 2 == 1 then (own + (i + 1)) % 65536 ∷ [] else []) (range_with_len 0 16)

-- all that pairs name, in order
abbrev pub named_by : List (ℕ × ℕ) → List ℕ
named_by pairs = flat_map (λ (p : ℕ × ℕ). names p.0 p.1) pairs

-- each number at its first place only
abbrev pub first_at : List ℕ → ℕ → List ℕ
first_at before n = if has before n then [] else n ∷ []

unfoldable pub first_of : List ℕ → List ℕ
first_of numbers = flat_map (λ (xs : List ℕ). xs) (each_by first_at [] numbers)

-- bytes as pairs of 16 and 16 bits; bytes behind the last whole pair are left out
abbrev pub pairs_in : List ℕ → List (ℕ × ℕ)
pairs_in (a ∷ b ∷ c ∷ d ∷ bytes) = (a * 256 + b, c * 256 + d) ∷ pairs_in bytes
pairs_in bytes = []

-- all that bytes name
abbrev pub named_in : List ℕ → List ℕ
named_in bytes = named_by (pairs_in bytes)
