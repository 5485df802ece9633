-- What a pair names, bit by bit.
use Rattle.std.proofs.Common.{◌≡◌, ℕ, zero, suc, ◌+◌, ◌/◌, ◌%◌, ◌^◌, ◌<◌, ◌≤◌, ◌==◌, cond, List, [], ◌∷◌, ◌++◌, length, drop, add-one, refl, sym, ap, ◌∙◌, arith}
use Rattle.std.specs.List.{flat_map, range_with_len}
use Rattle.gcc_units.proofs.Walk.{flat_map-push}
use Rattle.nack_rtx.specs.Naming.{names, named_in}
use Rattle.nack_rtx.specs.Running.{with_number, adding}
use Rattle.gcc_units.specs.Numbers.{number16}
use Rattle.nack_rtx.proofs.Numbers.{adding-append}

abbrev pub at_bit : ℕ → ℕ → ℕ → List ℕ
at_bit own bits i = cond (bits / 2 ^ i % 2 == 1) ((own + (i + 1)) % 65536 ∷ []) []

-- its own number, and those of the first bits
unfoldable pub names_to : ℕ → ℕ → ℕ → List ℕ
names_to own bits n = own ∷ flat_map (at_bit own bits) (range_with_len 0 n)

pub names_all : (own bits : ℕ) → names_to own bits 16 ≡ names own bits
unfolding names names_to
names_all own bits = refl

pub names_none : (there : List ℕ) (own bits : ℕ) → adding there (names_to own bits 0) ≡ with_number there own
unfolding names_to
names_none there own bits = refl

range-suc : (n i : ℕ) → range_with_len i (suc n) ≡ range_with_len i n ++ (i + n) ∷ []
range-suc zero i = ap (λ k. k ∷ []) (omega arith)
range-suc (suc n) i = ap (λ (xs : List ℕ). i ∷ xs) (range-suc n (i + 1)) ∙ ap (λ k. i ∷ (range_with_len (i + 1) n ++ k ∷ [])) (omega arith)

range-more : (n i : ℕ) → range_with_len i (n + 1) ≡ range_with_len i n ++ (i + n) ∷ []
range-more n i = rw (add-one n) (range-suc n i)

-- the numbers that the rest of bytes names, behind those of its first pair
pub named-pair : (bytes : List ℕ) → 4 ≤ length bytes → named_in bytes ≡ names (number16 bytes 0) (number16 bytes 2) ++ named_in (drop 4 bytes)
named-pair [] le = absurd (omega (arith, le))
named-pair (a ∷ []) le = absurd (omega (arith, le))
named-pair (a ∷ b ∷ []) le = absurd (omega (arith, le))
named-pair (a ∷ b ∷ c ∷ []) le = absurd (omega (arith, le))
named-pair (a ∷ b ∷ c ∷ d ∷ bytes) le = refl

pub named-end : (bytes : List ℕ) → length bytes < 4 → named_in bytes ≡ []
named-end [] lt = refl
named-end (a ∷ []) lt = refl
named-end (a ∷ b ∷ []) lt = refl
named-end (a ∷ b ∷ c ∷ []) lt = refl
named-end (a ∷ b ∷ c ∷ d ∷ bytes) lt = absurd (omega (arith, lt))

-- a pair was named, and the rest comes behind it
pub goes_on : (there more all bytes behind : List ℕ) (own bits : ℕ) → 4 ≤ length bytes → own ≡ number16 bytes 0 → bits ≡ number16 bytes 2 → behind ≡ drop 4 bytes
    → more ≡ adding there (names own bits) → adding there (named_in bytes) ≡ all → adding more (named_in behind) ≡ all
goes_on there more all bytes behind own bits le o b d m e =
    ap (λ (xs : List ℕ). adding more (named_in xs)) d
    ∙ ap (λ (xs : List ℕ). adding xs (named_in (drop 4 bytes))) (m ∙ ap (λ k. adding there (names k bits)) o ∙ ap (λ k. adding there (names (number16 bytes 0) k)) b)
    ∙ sym (adding-append there (names (number16 bytes 0) (number16 bytes 2)) (named_in (drop 4 bytes)))
    ∙ ap (λ (xs : List ℕ). adding there xs) (sym (named-pair bytes le))
    ∙ e

pub names_more : (there : List ℕ) (own bits i : ℕ) → adding there (names_to own bits (i + 1)) ≡ adding (adding there (names_to own bits i)) (at_bit own bits i)
unfolding names_to
names_more there own bits i =
    ap (λ (xs : List ℕ). adding there (own ∷ flat_map (at_bit own bits) xs)) (range-more i 0)
    ∙ ap (λ (xs : List ℕ). adding there (own ∷ xs)) (flat_map-push (at_bit own bits) (range_with_len 0 i) (0 + i))
    ∙ adding-append there (own ∷ flat_map (at_bit own bits) (range_with_len 0 i)) (at_bit own bits (0 + i))
    ∙ ap (λ k. adding (adding there (own ∷ flat_map (at_bit own bits) (range_with_len 0 i))) (at_bit own bits k)) (omega arith)
