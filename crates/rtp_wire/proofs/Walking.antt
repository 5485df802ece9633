-- The steps of the walk over an extension's elements.
use Rattle.std.proofs.Common.{◌≡◌, ◌≢◌, ℕ, zero, suc, ◌+◌, ◌*◌, ◌%◌, ◌<◌, ◌≤◌, List, [], ◌∷◌, length, drop, get_or, refl, ap, ◌∙◌, arith, Ok, Err, eq-eqb}
use Rattle.std.proofs.lemmas.Bool.{ne_eqb, lt-ltb, le-ltb, le-leb, lt-leb}
use Rattle.rtp_wire.specs.declared.packet.WireFault.TheVariants.{BadExtension, NoExtension}
use Rattle.rtp_wire.specs.Place.{walk}

-- the data of an element is passed over
pub passes : (id at n : ℕ) (xs : List ℕ) → n ≤ length xs → walk id at n xs ≡ walk id (at + n) 0 (drop n xs)
unfolding walk
passes id at zero xs h = let e : at ≡ at + 0 = omega arith in ap (λ k. walk id k 0 xs) e
passes id at (suc n) [] h = absurd (omega arith)
passes id at (suc n) (b ∷ rest) h =
    let e : (at + 1) + n ≡ at + suc n = omega arith in
    passes id (at + 1) n rest (omega arith) ∙ ap (λ k. walk id k 0 (drop n rest)) e

-- nothing is left
pub ends : (id at : ℕ) (xs : List ℕ) → length xs ≡ 0 → walk id at 0 xs ≡ Err NoExtension
unfolding walk
ends id at [] h = refl
ends id at (b ∷ rest) h = absurd (omega arith)

pub pad : (id at : ℕ) (xs : List ℕ) → 0 < length xs → get_or xs 0 0 ≡ 0 → walk id at 0 xs ≡ walk id (at + 1) 0 (drop 1 xs)
unfolding walk
pad id at [] some h = absurd (omega arith)
pad id at (b ∷ rest) some h = rw (eq-eqb b 0 h) refl

-- ID 0 with a length
pub stops_low : (id at : ℕ) (xs : List ℕ) → 0 < length xs → get_or xs 0 0 ≢ 0 → get_or xs 0 0 < 16 → walk id at 0 xs ≡ Err NoExtension
unfolding walk
stops_low id at [] some ne low = absurd (omega arith)
stops_low id at (b ∷ rest) some ne low = rw (ne_eqb b 0 ne, lt-ltb b 16 low) refl

-- ID 15
pub stops_high : (id at : ℕ) (xs : List ℕ) → 0 < length xs → 240 ≤ get_or xs 0 0 → walk id at 0 xs ≡ Err NoExtension
unfolding walk
stops_high id at [] some high = absurd (omega arith)
stops_high id at (b ∷ rest) some high =
    let ne : b ≢ 0 = omega arith in
    let l : 16 ≤ b = omega arith in
    rw (ne_eqb b 0 ne, le-ltb b 16 l, le-leb 240 b high) refl

pub cut_off : (id at : ℕ) (xs : List ℕ) → 0 < length xs → 16 ≤ get_or xs 0 0 → get_or xs 0 0 < 240
    → length xs < get_or xs 0 0 % 16 + 2 → walk id at 0 xs ≡ Err BadExtension
unfolding walk
cut_off id at [] some low high short = absurd (omega arith)
cut_off id at (b ∷ rest) some low high short =
    let ne : b ≢ 0 = omega arith in
    let s : length rest < b % 16 + 1 = omega arith in
    rw (ne_eqb b 0 ne, le-ltb b 16 low, lt-leb 240 b high, lt-ltb (length rest) (b % 16 + 1) s) refl

pub is_there : (id at : ℕ) (xs : List ℕ) → 0 < length xs → 16 ≤ get_or xs 0 0 → get_or xs 0 0 < 240
    → get_or xs 0 0 % 16 + 2 ≤ length xs → get_or xs 0 0 ≡ 16 * id + 1 → walk id at 0 xs ≡ Ok (at + 1)
unfolding walk
is_there id at [] some low high fits ours = absurd (omega arith)
is_there id at (b ∷ rest) some low high fits ours =
    let ne : b ≢ 0 = omega arith in
    let s : b % 16 + 1 ≤ length rest = omega arith in
    rw (ne_eqb b 0 ne, le-ltb b 16 low, lt-leb 240 b high, le-ltb (length rest) (b % 16 + 1) s, eq-eqb b (16 * id + 1) ours) refl

-- another element: its data is still to come
pub enters : (id at b : ℕ) (rest : List ℕ) → 16 ≤ b → b < 240 → b % 16 + 1 ≤ length rest → b ≢ 16 * id + 1
    → walk id at 0 (b ∷ rest) ≡ walk id (at + 1) (b % 16 + 1) rest
unfolding walk
enters id at b rest low high s other =
    let ne : b ≢ 0 = omega arith in
    rw (ne_eqb b 0 ne, le-ltb b 16 low, lt-leb 240 b high, le-ltb (length rest) (b % 16 + 1) s, ne_eqb b (16 * id + 1) other) refl

pub goes_over : (id at : ℕ) (xs : List ℕ) → 0 < length xs → 16 ≤ get_or xs 0 0 → get_or xs 0 0 < 240
    → get_or xs 0 0 % 16 + 2 ≤ length xs → get_or xs 0 0 ≢ 16 * id + 1
    → walk id at 0 xs ≡ walk id (at + (1 + (get_or xs 0 0 % 16 + 1))) 0 (drop (get_or xs 0 0 % 16 + 1) (drop 1 xs))
goes_over id at [] some low high fits other = absurd (omega arith)
goes_over id at (b ∷ rest) some low high fits other =
    let s : b % 16 + 1 ≤ length rest = omega arith in
    let e : (at + 1) + (b % 16 + 1) ≡ at + (1 + (b % 16 + 1)) = omega arith in
    enters id at b rest low high s other ∙ passes id (at + 1) (b % 16 + 1) rest s ∙ ap (λ k. walk id k 0 (drop (b % 16 + 1) rest)) e

-- a byte of an element's data
pub data_byte : (id at n b : ℕ) (rest : List ℕ) → walk id at (suc n) (b ∷ rest) ≡ walk id (at + 1) n rest
unfolding walk
data_byte id at n b rest = refl
