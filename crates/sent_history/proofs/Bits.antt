-- A set of places by a bit each.
use Rattle.std.proofs.Common.{◌≡◌, ◌≢◌, ℕ, ◌+◌, ◌-◌, ◌*◌, ◌/◌, ◌%◌, ◌^◌, ◌<◌, ◌≤◌, List, length, get_or, set, bit_and, bit_or, w64, inl, inr, ap, sym, ◌∙◌, arith, pow-add}
use Rattle.std.specs.Int.{bit_at, trailing_zeros}
use Rattle.std.proofs.Math.Nat.{div-div-eq-div-mul, div-le_self}
use Rattle.std.proofs.lemmas.Bool.{cases_eq, cases_lt}
use Rattle.std.proofs.lemmas.List.{get_or-set_same, get_or-set_other}
use Rattle.std.proofs.lemmas.Nat.Bits.{bit_at-zero, bit_at_set_same, bit_at_set_other, bit_at_clear_same, bit_at_clear_other, bit_at-trailing_zeros, bit_at_above}
use Rattle.sent_history.specs.Fresh.{bit_of, IsLowest}

-- ---- one word is changed

same_word : (words : List ℕ) (place w : ℕ) → place / 64 < length words → bit_of (set words (place / 64) w) place ≡ bit_at w (place % 64)
same_word words place w lt = ap (λ v. bit_at v (place % 64)) (get_or-set_same words (place / 64) w 0 lt)

other_bits : (words : List ℕ) (place k w : ℕ) → place / 64 < length words → ((i : ℕ) → i < 64 → i ≢ place % 64 → bit_at w i ≡ bit_at (get_or words (place / 64) 0) i)
    → k ≢ place → bit_of (set words (place / 64) w) k ≡ bit_of words k
other_bits words place k w lt same other = elim (cases_eq (k / 64) (place / 64)) [
  | inl here ↦
      ap (λ j. bit_at (get_or (set words (place / 64) w) j 0) (k % 64)) here
      ∙ ap (λ v. bit_at v (k % 64)) (get_or-set_same words (place / 64) w 0 lt)
      ∙ same (k % 64) (omega arith) (λ e. other (omega (arith, here, e)))
      ∙ ap (λ j. bit_at (get_or words j 0) (k % 64)) (sym here)
  | inr there ↦ ap (λ v. bit_at v (k % 64)) (get_or-set_other words (place / 64) (k / 64) w 0 there)
]

pub inserted : (words : List ℕ) (place w : ℕ) → place / 64 < length words → bit_of (set words (place / 64) (bit_or w (1 * 2 ^ (place % 64) % 18446744073709551616))) place ≡ 1
inserted words place w lt =
    same_word words place (bit_or w (1 * 2 ^ (place % 64) % 18446744073709551616)) lt ∙ bit_at_set_same w64 w (place % 64) (omega arith)

pub inserted-others : (words : List ℕ) (place w k : ℕ) → place / 64 < length words → w ≡ get_or words (place / 64) 0 → k ≢ place
    → bit_of (set words (place / 64) (bit_or w (1 * 2 ^ (place % 64) % 18446744073709551616))) k ≡ bit_of words k
inserted-others words place w k lt e other =
    other_bits words place k (bit_or w (1 * 2 ^ (place % 64) % 18446744073709551616)) lt
    (λ i below not. bit_at_set_other w64 w (place % 64) (omega arith) i not ∙ ap (λ v. bit_at v i) e) other

pub removed : (words : List ℕ) (place w : ℕ) → place / 64 < length words
    → bit_of (set words (place / 64) (bit_and w (18446744073709551615 - 1 * 2 ^ (place % 64) % 18446744073709551616))) place ≡ 0
removed words place w lt =
    same_word words place (bit_and w (18446744073709551615 - 1 * 2 ^ (place % 64) % 18446744073709551616)) lt ∙ bit_at_clear_same w64 w (place % 64) (omega arith)

pub removed-others : (words : List ℕ) (place w k : ℕ) → place / 64 < length words → w ≡ get_or words (place / 64) 0 → k ≢ place
    → bit_of (set words (place / 64) (bit_and w (18446744073709551615 - 1 * 2 ^ (place % 64) % 18446744073709551616))) k ≡ bit_of words k
removed-others words place w k lt e other =
    other_bits words place k (bit_and w (18446744073709551615 - 1 * 2 ^ (place % 64) % 18446744073709551616)) lt
    (λ i below not. bit_at_clear_other w64 w (place % 64) (omega arith) i below not ∙ ap (λ v. bit_at v i) e) other

-- ---- the places behind a place in its word

shifted : (w r i : ℕ) → bit_at (w / 2 ^ r) i ≡ bit_at w (r + i)
shifted w r i = ap (λ q. q % 2) (div-div-eq-div-mul w (2 ^ r) (2 ^ i) ∙ ap (λ p. w / p) (sym (pow-add 2 r i)))

shifted-from : (w r i : ℕ) → r ≤ i → bit_at w i ≡ bit_at (w / 2 ^ r) (i - r)
shifted-from w r i le = ap (bit_at w) (omega (arith, le)) ∙ sym (shifted w r (i - r))

pub none_behind : (w r behind i : ℕ) → behind ≡ w / 2 ^ r → behind ≡ 0 → r ≤ i → bit_at w i ≡ 0
none_behind w r behind i e none le = shifted-from w r i le ∙ ap (λ v. bit_at v (i - r)) (sym e ∙ none) ∙ bit_at-zero (i - r)

pub lowest_behind : (w r behind : ℕ) → w < 2 ^ 64 → behind ≡ w / 2 ^ r → behind ≢ 0 → IsLowest w r (r + trailing_zeros w64 behind)
lowest_behind w r behind small e some =
    let tz : ℕ = trailing_zeros w64 behind in
    let less : behind < 2 ^ 64 = omega (arith, e, small, div-le_self w (2 ^ r)) in
    let found = bit_at-trailing_zeros w64 behind (omega (arith, some)) less in
    let one : bit_at w (r + tz) ≡ 1 = sym (shifted w r tz) ∙ ap (λ v. bit_at v tz) (sym e) ∙ found.1 in
    record {
      low = omega arith;
      high = elim (cases_lt (r + tz) 64) [
        | inl lt ↦ lt
        | inr ge ↦ absurd (omega (arith, one, bit_at_above w 64 (r + tz) small ge))
      ];
      none = λ i le lt. shifted-from w r i le ∙ ap (λ v. bit_at v (i - r)) (sym e) ∙ found.2 (i - r) (omega (arith, le, lt));
      here = one;
    }

-- ---- the places of one word

at_place : (words : List ℕ) (at k : ℕ) → at ≤ k → k < (at / 64 + 1) * 64 → bit_of words k ≡ bit_at (get_or words (at / 64) 0) (k % 64)
at_place words at k le lt = let word : k / 64 ≡ at / 64 = omega arith in ap (λ j. bit_at (get_or words j 0) (k % 64)) word

pub none_in_word : (words : List ℕ) (at word k : ℕ) → word ≡ get_or words (at / 64) 0 → ((i : ℕ) → at % 64 ≤ i → i < 64 → bit_at word i ≡ 0)
    → at ≤ k → k < (at / 64 + 1) * 64 → bit_of words k ≡ 0
none_in_word words at word k e none le lt =
    at_place words at k le lt ∙ ap (λ w. bit_at w (k % 64)) (sym e) ∙ none (k % 64) (omega (arith, le, lt)) (omega arith)

-- the first place in the word
pub record IsFirst (words : List ℕ) (at place : ℕ) : Type 0 where
  pub low : at ≤ place
  pub none : (k : ℕ) → at ≤ k → k < place → bit_of words k ≡ 0
  pub here : bit_of words place ≡ 1

pub first_in_word : (words : List ℕ) (at word bit place : ℕ) → word ≡ get_or words (at / 64) 0 → IsLowest word (at % 64) bit → place ≡ at / 64 * 64 + bit
    → IsFirst words at place
first_in_word words at word bit place e lowest is =
    let low = lowest.low in
    let high = lowest.high in
    record {
      low = omega (arith, low, is);
      none = λ k le lt. at_place words at k le (omega (arith, high, is, lt)) ∙ ap (λ w. bit_at w (k % 64)) (sym e)
          ∙ lowest.none (k % 64) (omega (arith, le, lt, high, is)) (omega (arith, le, lt, high, is));
      here = at_place words at place (omega (arith, low, is)) (omega (arith, high, is)) ∙ ap (λ w. bit_at w (place % 64)) (sym e)
          ∙ ap (bit_at word) (omega (arith, is, high)) ∙ lowest.here;
    }
