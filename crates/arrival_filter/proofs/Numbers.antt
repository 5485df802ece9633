-- Bounds of the numbers of one step.
use Rattle.std.proofs.Common.{ℕ, suc, ℤ, pos, negsuc, neg_ℤ, ◌+ℤ◌, ◌-ℤ◌, ◌*ℤ◌, ◌≤ℤ◌, ◌≡◌, ◌+◌, ◌-◌, ◌*◌, ◌/◌, ◌≤◌, min, List, [], ◌∷◌, fold, arith}
use Rattle.std.specs.Int.{int_min, int_max}
use Rattle.std.proofs.lemmas.Int.{ints, clamps}
use Rattle.fixed_math.specs.Floor.{IsFloor}
use Rattle.gcc_units.specs.declared.limits.TheConstants.{GREATEST_DELAY}
use Rattle.std.proofs.lemmas.Nat.{mul-le}
use Rattle.std.proofs.Math.Nat.{mul-le-mul_left}
use Rattle.fixed_math.specs.declared.TheConstants.{ONE_Q16, ONE_Q30}
use Rattle.arrival_filter.specs.declared.TheConstants.{PROCESS_NOISE, GREATEST_VARIANCE, LONGEST_INTERVAL}
use Rattle.arrival_filter.specs.Filter.{left, least, cut}

-- a weighted sum is at most all the weight times the greatest
weighted : (a r v s most : ℕ) → v ≤ most → s ≤ most → a * v + r * s ≤ (a + r) * most
weighted a r v s most h k = omega (arith, mul-le-mul_left a h, mul-le-mul_left r k)

square_fits : (n : ℕ) → n ≤ 1310720000 → n * n / ONE_Q16 ≤ GREATEST_VARIANCE
square_fits n h = omega (arith, mul-le n n 1310720000 1310720000 h h)

pub variance_fits : (alpha v n : ℕ) → alpha ≤ ONE_Q30 → v ≤ GREATEST_VARIANCE → n ≤ 1310720000
    → (alpha * v + (ONE_Q30 - alpha) * (n * n / ONE_Q16)) / ONE_Q30 ≤ GREATEST_VARIANCE
variance_fits alpha v n a h k =
    let w = weighted alpha (ONE_Q30 - alpha) v (n * n / ONE_Q16) GREATEST_VARIANCE h (square_fits n k) in
    let one : alpha + (ONE_Q30 - alpha) ≡ ONE_Q30 = omega arith in
    let fits = rw one at w in
    omega (arith, fits)

pub left_below : (error k : ℕ) → left error k ≤ error + PROCESS_NOISE
left_below error k =
    omega (arith, mul-le (ONE_Q16 - k) (error + PROCESS_NOISE) ONE_Q16 (error + PROCESS_NOISE) (omega arith) (omega arith))

-- no interval is above the first one of a least
fold_min : (a : ℕ) (xs : List ℕ) → fold min a xs ≤ a
fold_min a [] = omega arith
fold_min a (x ∷ xs) = omega (arith, fold_min (min a x) xs)

pub least_short : (xs : List ℕ) → least xs ≤ LONGEST_INTERVAL
least_short xs = fold_min LONGEST_INTERVAL xs

-- a part of a number lies between 0 and the number
pub part_between : (z q : ℤ) (k : ℕ) → k ≤ ONE_Q16 → IsFloor (z *ℤ pos k) (pos ONE_Q16) q
    → (int_min (pos 0) z ≤ℤ q) × (q ≤ℤ int_max (pos 0) z)
part_between (pos a) q k h f =
    let p = mul-le-mul_left a h in (omega (arith, ints, clamps, f.fits, f.greatest), omega (arith, ints, clamps, f.fits, f.greatest))
part_between (negsuc a) q k h f =
    let p = mul-le-mul_left (suc a) h in (omega (arith, ints, clamps, f.fits, f.greatest), omega (arith, ints, clamps, f.fits, f.greatest))

-- a mean that moves towards d, and never past it, stays in the range of both
pub mean_within : (m d c n : ℤ) (b : ℕ) → neg_ℤ GREATEST_DELAY ≤ℤ m → m ≤ℤ GREATEST_DELAY → neg_ℤ GREATEST_DELAY ≤ℤ d → d ≤ℤ GREATEST_DELAY
    → c ≡ cut (d -ℤ m) b → int_min m (m +ℤ c) ≤ℤ n → n ≤ℤ int_max m (m +ℤ c)
    → (neg_ℤ GREATEST_DELAY ≤ℤ n) × (n ≤ℤ GREATEST_DELAY)
mean_within m d c n b m_low m_high d_low d_high e low high = (omega (arith, ints, clamps), omega (arith, ints, clamps))
