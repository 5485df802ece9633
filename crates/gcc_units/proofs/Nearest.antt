-- The number nearest to another with given low bits.
use Rattle.std.proofs.Common.{◌≡◌, ℤ, pos, negsuc, neg_ℤ, ◌/◌, ◌+ℤ◌, ◌-ℤ◌, ◌*ℤ◌, ◌≤ℤ◌, ◌<ℤ◌, refl, arith}
use Rattle.std.proofs.lemmas.Int.{ints}
use Rattle.std.specs.Int.{int_rem_euclid}
use Rattle.gcc_units.specs.Unwrapping.{signed24, unwrapped, IsNearest}

-- a number is its remainder and a multiple of 2^24
turns_of : (z : ℤ) → (turns : ℤ) × ((int_rem_euclid z (pos 16777216) +ℤ turns *ℤ pos 16777216) ≡ z)
turns_of (pos a) = (pos (a / 16777216), omega (arith, ints))
turns_of (negsuc a) = (negsuc (a / 16777216), omega (arith, ints))

pub value_is : (last low z r : ℤ) → z ≡ (low -ℤ last) → r ≡ signed24 z → (last +ℤ r) ≡ unwrapped last low
value_is last low z r e v = rw (v, e) refl

pub nearest_is : (last low z r n : ℤ) → z ≡ (low -ℤ last) → r ≡ signed24 z → neg_ℤ (pos 8388608) ≤ℤ r → r <ℤ pos 8388608
    → n ≡ (last +ℤ r) → IsNearest last low n
nearest_is last low z r n e v above below is =
    let t : (turns : ℤ) × ((int_rem_euclid (z +ℤ pos 8388608) (pos 16777216) +ℤ turns *ℤ pos 16777216) ≡ (z +ℤ pos 8388608)) =
    turns_of (z +ℤ pos 8388608) in
    let f : (int_rem_euclid (z +ℤ pos 8388608) (pos 16777216) +ℤ t.0 *ℤ pos 16777216) ≡ (z +ℤ pos 8388608) = t.1 in
    record {
      turns = t.0;
      same = omega (arith, ints, v, e, f, is);
      low = omega (arith, ints, is, above);
      high = omega (arith, ints, is, below);
    }
