-- The rounded quotient of the library is the floor.
use Rattle.std.proofs.Common.{ℤ, pos, negsuc, ℕ, zero, suc, ◌≡◌, ◌*ℤ◌, ◌+ℤ◌, ◌<ℤ◌, ◌+◌, ◌*◌, ◌/◌, ◌≤◌, ◌<◌, arith}
use Rattle.std.proofs.lemmas.Int.{ints}
use Rattle.std.proofs.Math.Nat.{div-mul-le_self}
use Rattle.fixed_math.specs.Floor.{IsFloor, floor_div}

below : (a n : ℕ) → a / suc n * suc n ≤ a
below a n = div-mul-le_self a (suc n)

above : (a n : ℕ) → a < (a / suc n + 1) * suc n
above a n = omega arith

-- one above a negative number, times n
one_up : (a n k : ℕ) → k * suc n ≤ a → negsuc a <ℤ ((negsuc k +ℤ pos 1) *ℤ pos (suc n))
one_up a n zero h = omega (arith, ints)
one_up a n (suc k) h = let e : negsuc (suc k) +ℤ pos 1 ≡ negsuc k = omega (arith, ints) in rw e (omega (arith, ints))

floor_at : (z : ℤ) (n : ℕ) → IsFloor z (pos (suc n)) (floor_div z (pos (suc n)))
floor_at (pos a) n = record { fits = omega (arith, ints, below a n); greatest = omega (arith, ints, above a n) }
floor_at (negsuc a) n = record { fits = omega (arith, ints, above a n); greatest = one_up a n (a / suc n) (below a n) }

pub floor_is : (z n : ℤ) → pos 0 <ℤ n → IsFloor z n (floor_div z n)
floor_is z (pos zero) above = absurd (omega (arith, ints))
floor_is z (pos (suc n)) above = floor_at z n
floor_is z (negsuc n) above = absurd (omega (arith, ints))
