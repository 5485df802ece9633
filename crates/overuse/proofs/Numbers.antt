-- Bounds of the numbers by which a threshold moves.
use Rattle.std.proofs.Common.{ℕ, ℤ, pos, negsuc, neg_ℤ, ◌*ℤ◌, ◌≤ℤ◌, ◌≡◌, ◌+◌, ◌*◌, ◌≤◌, ◌<◌, unsigned_abs, FitsSigned, arith, rules, to_z, of_z, ◌+ℤ◌, ◌-ℤ◌, ◌^◌, ◌∙◌, refl, int_lt, false}
use Rattle.std.specs.Int.{w64, w128}
use Rattle.std.proofs.lemmas.Int.{ints, to_z-of_z, fits_signed_mul, unsigned_abs-mul}
use Rattle.std.proofs.lemmas.Nat.{mul-le}
use Rattle.fixed_math.specs.Floor.{floor_div}
use Rattle.overuse.specs.Detector.{excess, moved, next_threshold}
use Rattle.overuse.specs.declared.TheConstants.{GREATEST_EXCESS, LEAST_THRESHOLD, GREATEST_THRESHOLD, GAIN_UNIT}

size_below : (z : ℤ) (n : ℕ) → neg_ℤ (pos n) ≤ℤ z → z ≤ℤ pos n → unsigned_abs z ≤ n
size_below (pos a) n low high = omega (arith, ints)
size_below (negsuc a) n low high = omega (arith, ints)

pub product_fits : (weight over : ℤ) → pos 0 ≤ℤ weight → weight ≤ℤ GAIN_UNIT → neg_ℤ GREATEST_THRESHOLD ≤ℤ over → over ≤ℤ GREATEST_EXCESS
    → FitsSigned w64 (weight *ℤ over)
product_fits weight over w_low w_high low high =
    fits_signed_mul w64 weight over 400000 39321600 (size_below weight 400000 (omega (arith, ints)) w_high) (size_below over 39321600 low (omega (arith, ints))) (omega arith)

quotient_small : (z : ℤ) (n : ℕ) → unsigned_abs z ≤ n → unsigned_abs (floor_div z GAIN_UNIT) ≤ n + 1
quotient_small (pos a) n h = omega (arith, ints)
quotient_small (negsuc a) n h = omega (arith, ints)

-- by how much a threshold moves at most, for the sum to fit
pub move_fits : (weight over by : ℤ) → pos 0 ≤ℤ weight → weight ≤ℤ GAIN_UNIT → neg_ℤ GREATEST_THRESHOLD ≤ℤ over → over ≤ℤ GREATEST_EXCESS
    → by ≡ floor_div (weight *ℤ over) GAIN_UNIT → unsigned_abs by ≤ 400000 * 39321600 + 1
move_fits weight over by w_low w_high low high e =
    rw e
    (quotient_small (weight *ℤ over) (400000 * 39321600)
    (rw unsigned_abs-mul
    (mul-le (unsigned_abs weight) (unsigned_abs over) 400000 39321600 (size_below weight 400000 (omega (arith, ints)) w_high) (size_below over 39321600 low (omega (arith, ints))))))

-- the quotient of the code is that of the bare numbers
pub quotient_is : (weight over by : ℤ) → pos 0 ≤ℤ weight → weight ≤ℤ GAIN_UNIT → neg_ℤ GREATEST_THRESHOLD ≤ℤ over → over ≤ℤ GREATEST_EXCESS
    → by ≡ floor_div (to_z w64 (of_z w64 (to_z w64 (of_z w64 weight) *ℤ to_z w64 (of_z w64 over)))) GAIN_UNIT
    → by ≡ floor_div (weight *ℤ over) GAIN_UNIT
quotient_is weight over by w_low w_high low high e =
    let weight_is : to_z w64 (of_z w64 weight) ≡ weight = omega (arith, ints) in
    let over_is : to_z w64 (of_z w64 over) ≡ over = omega (arith, ints) in
    let fits = product_fits weight over w_low w_high low high in
    let product_is : to_z w64 (of_z w64 (weight *ℤ over)) ≡ weight *ℤ over = to_z-of_z w64 (weight *ℤ over) fits in
    rw (weight_is, over_is, product_is) at e

-- the sum of the code is that of the bare numbers
pub sum_is : (threshold by : ℤ) → LEAST_THRESHOLD ≤ℤ threshold → threshold ≤ℤ GREATEST_THRESHOLD → unsigned_abs by ≤ 400000 * 39321600 + 1
    → to_z w64 (of_z w64 (to_z w64 (of_z w64 threshold) +ℤ to_z w64 (of_z w64 by))) ≡ threshold +ℤ by
sum_is threshold by low high small = omega (arith, ints)

pub sum_fits : (threshold by : ℤ) → LEAST_THRESHOLD ≤ℤ threshold → threshold ≤ℤ GREATEST_THRESHOLD → unsigned_abs by ≤ 400000 * 39321600 + 1
    → FitsSigned w64 (to_z w64 (of_z w64 threshold) +ℤ to_z w64 (of_z w64 by))
sum_fits threshold by low high small = search (rules, ints)

pub not_far : (z : ℤ) → int_lt GREATEST_EXCESS z ≡ false → z ≤ℤ GREATEST_EXCESS
not_far z h = grind (arith, ints)

-- the excess of the code, in 128 bits, is that of the bare numbers
pub excess_is : (threshold mean : ℤ) (n : ℕ) → FitsSigned w64 threshold → n < 2 ^ 64 → n ≡ unsigned_abs mean
    → to_z w128 (of_z w128 (to_z w128 n -ℤ to_z w128 (of_z w128 threshold))) ≡ excess threshold mean
excess_is threshold mean n fits small e = rw (← e) (omega (arith, ints))

pub excess_whole : (threshold mean : ℤ) → LEAST_THRESHOLD ≤ℤ threshold → threshold ≤ℤ GREATEST_THRESHOLD → excess threshold mean ≤ℤ GREATEST_EXCESS
    → to_z w64 (of_z w64 (excess threshold mean)) ≡ excess threshold mean
excess_whole threshold mean low high near = omega (arith, ints)

pub adapted_is : (threshold mean gap next : ℤ) → int_lt GREATEST_EXCESS (excess threshold mean) ≡ false
    → next ≡ moved threshold (excess threshold mean) gap → next ≡ next_threshold threshold mean gap
adapted_is threshold mean gap next near e = e ∙ rw near refl
