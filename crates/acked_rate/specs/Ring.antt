-- The ring of the sums, one for each quarter-millisecond of a window, the oldest first.
use Rattle.std.specs.Prelude.{◌≡◌, ℕ, ℤ, pos, ◌+ℤ◌, ◌-ℤ◌, min, List, [], ◌∷◌, ◌++◌, length, drop, replicate, unsigned_abs, Option, Some, None}
use Rattle.circular_buffer.specs.Buffer.{Buffer}
use Rattle.acked_rate.specs.declared.TheConstants.{WINDOW, MOST_SUMS}
use Rattle.acked_rate.specs.declared.sums.Span.{Span}

-- the bytes of what arrived at one time
pub record Sum : Type 0 where
  pub arrival : ℤ
  pub bytes : ℕ

pub record IsFull (ring : Buffer ℕ) : Type 0 where
  pub room : ring.capacity ≡ MOST_SUMS
  pub full : length ring.items ≡ MOST_SUMS

-- the sums with their times, of which the first is this one
abbrev pub timed : ℤ → List ℕ → List Sum
timed at [] = []
timed at (bytes ∷ ring) = record { arrival = at; bytes = bytes } ∷ timed (at +ℤ pos 1) ring

-- the time of the first sum of the window that ends with the newest arrival
abbrev pub first_in : ℤ → ℤ
first_in newest = (newest -ℤ WINDOW) +ℤ pos 1

-- the sums of the window; none before anything arrived
abbrev pub sums_of : Option Span → List ℕ → List Sum
sums_of None ring = []
sums_of (Some s) ring = timed (first_in s.newest) ring

-- the ring after so many quarter-milliseconds: that many of the oldest are gone, and as many of 0 came
abbrev pub moved : ℕ → List ℕ → List ℕ
moved steps ring = drop (min steps (length ring)) ring ++ replicate (min steps (length ring)) 0

-- how many quarter-milliseconds the window moves on to a new newest arrival
abbrev pub steps_to : Option Span → ℤ → ℕ
steps_to None newest = 0
steps_to (Some s) newest = unsigned_abs (newest -ℤ s.newest)
