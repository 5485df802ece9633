-- Which kept slots are fresh: neither credited nor missed. A word of 64 bits tells of 64 places.
use Rattle.std.specs.Prelude.{◌≡◌, ℕ, ◌+◌, ◌/◌, ◌%◌, ◌<◌, ◌≤◌, Bool, not, cond, ◌&&◌, List, length, take, drop, count_by, slice_index, slice_index_or}
use Rattle.std.specs.Int.{bit_at}
use Rattle.sent_history.specs.declared.slot.Slot.{Slot}

-- 1 where the place is in the set, and 0 where it is not
abbrev pub bit_of : List ℕ → ℕ → ℕ
bit_of words place = bit_at (slice_index words (place / 64)) (place % 64)

-- the lowest bit of the word that is set, from a bit on
pub record IsLowest (word from found : ℕ) : Type 0 where
  pub low : from ≤ found
  pub high : found < 64
  pub none : (i : ℕ) → from ≤ i → i < found → bit_at word i ≡ 0
  pub here : bit_at word found ≡ 1

abbrev pub is_fresh : Slot → Bool
is_fresh s = not s.credited && not s.missed

abbrev pub bit : Bool → ℕ
bit b = cond b 1 0

-- The set has the fresh slots, of which the oldest has the place origin, and each other the place behind it, in a circle.
abbrev pub HasFresh : ℕ → List ℕ → List Slot → Type 0
HasFresh origin words slots =
    (k : ℕ) (d : Slot) → k < length slots → bit_of words ((origin + k) % 32768) ≡ bit (is_fresh (slice_index_or slots k d))

-- how many of so many slots from a place on are fresh
abbrev pub fresh_in : List Slot → ℕ → ℕ → ℕ
fresh_in slots place count = count_by is_fresh (take count (drop place slots))
