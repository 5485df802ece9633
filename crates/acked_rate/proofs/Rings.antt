-- What a ring stands for as it moves on, and what a packet adds to it.
use Rattle.std.proofs.Common.{◌≡◌, ℕ, ℤ, pos, negsuc, ◌+ℤ◌, ◌-ℤ◌, ◌≤ℤ◌, ◌<ℤ◌, ◌+◌, ◌-◌, ◌≤◌, ◌<◌, ◌⊎◌, inl, inr, zero, suc, true, false, Bool, int_lt, if◌then◌else◌, min, Option, Some, None, List, [], ◌∷◌, ◌++◌, length, take, drop, replicate, get_or, set, sum, sum_by, unsigned_abs, refl, sym, ap, ◌∙◌, append_assoc, length-append, length-drop, arith}
use Rattle.std.proofs.lemmas.Int.{ints}
use Rattle.std.proofs.lemmas.Bool.{cases_lt}
use Rattle.std.proofs.lemmas.Bool.Decides.{nat_tests}
use Rattle.std.proofs.lemmas.List.{append-nil, drop-append-le, drop-drop, length-take-le, replicate-append-replicate, take-append-drop}
use Rattle.std.proofs.lemmas.List.Folds.{sum_by-replicate}
use Rattle.std.proofs.lemmas.List.Sums.{sum_by-append, sum_by-set}
use Rattle.std.proofs.Math.IntN.{nat_abs}
use Rattle.std.proofs.Math.ListN.{drop_of_length-le}
use Rattle.circular_buffer.specs.Buffer.{keep_last}
use Rattle.acked_rate.specs.declared.TheConstants.{WINDOW, MOST_SUMS}
use Rattle.acked_rate.specs.declared.sums.Span.{Span}
use Rattle.acked_rate.specs.Received.{weight}
use Rattle.acked_rate.specs.Ring.{timed, moved, first_in, sums_of, steps_to}
use Rattle.acked_rate.specs.Kept.{held, sum_above, IsFilled, IsUntil}

sum-cons : {X : Type 0} (f : X → ℕ) (x : X) (xs : List X) → sum_by f (x ∷ xs) ≡ f x + sum_by f xs
sum-cons f x xs = omega (arith, sum_by-append f (x ∷ []) xs)

before-is : (limit a : ℤ) → a ≤ℤ limit → int_lt limit a ≡ false
before-is limit a h = grind (arith, ints, nat_tests)

after-is : (limit a : ℤ) → limit <ℤ a → int_lt limit a ≡ true
after-is limit a h = grind (arith, ints, nat_tests)

-- ---- what counts of a ring

-- the first sum and the others
timed-cons : (limit at : ℤ) (bytes : ℕ) (ring : List ℕ)
    → sum_above limit (timed at (bytes ∷ ring)) ≡ held limit (record { arrival = at; bytes = bytes }) + sum_above limit (timed (at +ℤ pos 1) ring)
timed-cons limit at bytes ring = sum-cons (held limit) (record { arrival = at; bytes = bytes }) (timed (at +ℤ pos 1) ring)

-- at most all bytes count
timed-least : (limit at : ℤ) (ring : List ℕ) → sum_above limit (timed at ring) ≤ sum ring
timed-least limit at [] = omega arith
timed-least limit at (bytes ∷ ring) =
    omega (arith, timed-cons limit at bytes ring, one (int_lt limit at) bytes, timed-least limit (at +ℤ pos 1) ring, sum-cons (λ (n : ℕ). n) bytes ring)
  where
    one : (b : Bool) (n : ℕ) → (if b then n else 0) ≤ n
    one true n = omega arith
    one false n = omega arith

pub timed-nothing : (limit at : ℤ) (ring : List ℕ) → sum ring ≡ 0 → sum_above limit (timed at ring) ≡ 0
timed-nothing limit at ring none = omega (arith, timed-least limit at ring)

-- after the limit all bytes count
pub timed-all : (limit at : ℤ) (ring : List ℕ) → limit <ℤ at → sum_above limit (timed at ring) ≡ sum ring
timed-all limit at [] h = refl
timed-all limit at (bytes ∷ ring) h =
    let counts : held limit (record { arrival = at; bytes = bytes }) ≡ bytes = rw (after-is limit at h) refl in
    omega (arith, counts, timed-cons limit at bytes ring, timed-all limit (at +ℤ pos 1) ring (omega (arith, ints)), sum-cons (λ (n : ℕ). n) bytes ring)

-- up to the limit none count
timed-none : (limit at : ℤ) (ring : List ℕ) → (at +ℤ pos (length ring)) ≤ℤ (limit +ℤ pos 1) → sum_above limit (timed at ring) ≡ 0
timed-none limit at [] h = refl
timed-none limit at (bytes ∷ ring) h =
    let out : held limit (record { arrival = at; bytes = bytes }) ≡ 0 = rw (before-is limit at (omega (arith, ints))) refl in
    omega (arith, out, timed-cons limit at bytes ring, timed-none limit (at +ℤ pos 1) ring (omega (arith, ints)))

timed-append : (limit at : ℤ) (xs ys : List ℕ)
    → sum_above limit (timed at (xs ++ ys)) ≡ sum_above limit (timed at xs) + sum_above limit (timed (at +ℤ pos (length xs)) ys)
timed-append limit at [] ys =
    let same : at +ℤ pos 0 ≡ at = omega (arith, ints) in
    rw same (omega arith)
timed-append limit at (x ∷ xs) ys =
    let same : (at +ℤ pos 1) +ℤ pos (length xs) ≡ at +ℤ pos (length (x ∷ xs)) = omega (arith, ints) in
    let rest : sum_above limit (timed (at +ℤ pos 1) (xs ++ ys)) ≡ sum_above limit (timed (at +ℤ pos 1) xs) + sum_above limit (timed (at +ℤ pos (length (x ∷ xs))) ys) =
    rw same at (timed-append limit (at +ℤ pos 1) xs ys) in
    omega (arith, rest, timed-cons limit at x (xs ++ ys), timed-cons limit at x xs)

-- ---- as it moves on

zeros : (limit at : ℤ) (n : ℕ) → sum_above limit (timed at (replicate n 0)) ≡ 0
zeros limit at n = timed-nothing limit at (replicate n 0) (omega (arith, sum_by-replicate (λ (x : ℕ). x) n 0))

-- what is left of a ring, and nothing
moved-by : (limit at : ℤ) (n : ℕ) (ring : List ℕ) → n ≤ length ring → (at +ℤ pos n) ≤ℤ (limit +ℤ pos 1)
    → sum_above limit (timed (at +ℤ pos n) (drop n ring ++ replicate n 0)) ≡ sum_above limit (timed at ring)
moved-by limit at n ring few late =
    let long : length (take n ring) ≡ n = length-take-le n ring few in
    let whole : sum_above limit (timed at (take n ring ++ drop n ring)) ≡ sum_above limit (timed at ring) = rw (take-append-drop n ring) refl in
    let parts : sum_above limit (timed at (take n ring ++ drop n ring)) ≡ sum_above limit (timed at (take n ring)) + sum_above limit (timed (at +ℤ pos n) (drop n ring)) =
    rw long at (timed-append limit at (take n ring) (drop n ring)) in
    let gone : sum_above limit (timed at (take n ring)) ≡ 0 = timed-none limit at (take n ring) (rw long late) in
    omega (arith, whole, parts, gone, timed-append limit (at +ℤ pos n) (drop n ring) (replicate n 0), zeros limit ((at +ℤ pos n) +ℤ pos (length (drop n ring))) n)

pub moved-above : (limit at : ℤ) (steps : ℕ) (ring : List ℕ) → (at +ℤ pos steps) ≤ℤ (limit +ℤ pos 1)
    → sum_above limit (timed (at +ℤ pos steps) (moved steps ring)) ≡ sum_above limit (timed at ring)
moved-above limit at steps ring late = one (cases_lt steps (length ring))
  where
    one : (steps < length ring) ⊎ (length ring ≤ steps) → sum_above limit (timed (at +ℤ pos steps) (moved steps ring)) ≡ sum_above limit (timed at ring)
    one (inl few) =
        let is : min steps (length ring) ≡ steps = omega arith in
        rw is (moved-by limit at steps ring (omega arith) late)
    one (inr many) =
        let is : min steps (length ring) ≡ length ring = omega arith in
        let none : drop (length ring) ring ≡ [] = drop_of_length-le ring (omega arith) in
        rw (is, none) (zeros limit (at +ℤ pos steps) (length ring) ∙ sym (timed-none limit at ring (omega (arith, ints))))

moved-nowhere : (ring : List ℕ) → moved 0 ring ≡ ring
moved-nowhere ring =
    let none : min 0 (length ring) ≡ 0 = omega arith in
    rw none (append-nil ring)

-- one more step
pub moved-more : (steps : ℕ) (ring : List ℕ) → steps < length ring
    → drop 1 (drop steps ring ++ replicate steps 0) ++ 0 ∷ [] ≡ drop (steps + 1) ring ++ replicate (steps + 1) 0
moved-more steps ring more =
    let one : 1 ≤ length (drop steps ring) = omega (arith, length-drop steps ring) in
    rw (drop-append-le 1 (drop steps ring) (replicate steps 0) one, drop-drop 1 steps ring, append_assoc)
    (ap (λ (ys : List ℕ). drop (steps + 1) ring ++ ys) (replicate-append-replicate steps 1 0))

whole : (z : ℤ) → pos 0 ≤ℤ z → pos (unsigned_abs z) ≡ z
whole (pos n) low = refl
whole (negsuc n) low = absurd (omega (arith, ints))

-- as it moves on to a new newest arrival
pub slid-above : (span : Option Span) (newest : ℤ) (ring : List ℕ) (limit : ℤ) → IsFilled span ring → IsUntil span newest → (newest -ℤ WINDOW) ≤ℤ limit
    → sum_above limit (timed (first_in newest) (moved (steps_to span newest) ring)) ≡ sum_above limit (sums_of span ring)
slid-above None newest ring limit nothing until late = rw (moved-nowhere ring) (timed-nothing limit (first_in newest) ring nothing)
slid-above (Some s) newest ring limit filled until late =
    let steps : pos (unsigned_abs (newest -ℤ s.newest)) ≡ newest -ℤ s.newest = whole (newest -ℤ s.newest) (omega (arith, ints)) in
    let first : first_in s.newest +ℤ pos (unsigned_abs (newest -ℤ s.newest)) ≡ first_in newest = omega (arith, ints, steps) in
    rw first at (moved-above limit (first_in s.newest) (unsigned_abs (newest -ℤ s.newest)) ring (omega (arith, ints, steps, late)))

-- ---- with one more packet

more-held : (limit arrival : ℤ) (bytes size : ℕ)
    → held limit (record { arrival = arrival; bytes = bytes + size }) ≡ held limit (record { arrival = arrival; bytes = bytes }) + weight limit (record { arrival = arrival; size = size })
more-held limit arrival bytes size = one (int_lt limit arrival)
  where
    one : (b : Bool) → (if b then bytes + size else 0) ≡ (if b then bytes else 0) + (if b then size else 0)
    one true = refl
    one false = omega arith

pub more-above : (limit at : ℤ) (ring : List ℕ) (place size : ℕ) → place < length ring
    → sum_above limit (timed at (set ring place (get_or ring place 0 + size))) ≡ sum_above limit (timed at ring) + weight limit (record { arrival = at +ℤ pos place; size = size })
more-above limit at [] place size inside = absurd (omega arith)
more-above limit at (bytes ∷ ring) zero size inside =
    let same : at +ℤ pos 0 ≡ at = omega (arith, ints) in
    rw same (omega (arith, more-held limit at bytes size, timed-cons limit at (bytes + size) ring, timed-cons limit at bytes ring))
more-above limit at (bytes ∷ ring) (suc place) size inside =
    let same : (at +ℤ pos 1) +ℤ pos place ≡ at +ℤ pos (suc place) = omega (arith, ints) in
    let rest : sum_above limit (timed (at +ℤ pos 1) (set ring place (get_or ring place 0 + size))) ≡ sum_above limit (timed (at +ℤ pos 1) ring) + weight limit (record { arrival = at +ℤ pos (suc place); size = size }) =
    rw same at (more-above limit (at +ℤ pos 1) ring place size (omega arith)) in
    omega (arith, rest, timed-cons limit at bytes (set ring place (get_or ring place 0 + size)), timed-cons limit at bytes ring)

pub more-sum : (ring : List ℕ) (place size : ℕ) → place < length ring → sum (set ring place (get_or ring place 0 + size)) ≡ sum ring + size
more-sum ring place size inside = omega (arith, sum_by-set (λ (n : ℕ). n) ring place (get_or ring place 0 + size) 0 inside)

pub more-least : (ring : List ℕ) (place : ℕ) → place < length ring → get_or ring place 0 ≤ sum ring
more-least ring place inside = omega (arith, sum_by-set (λ (n : ℕ). n) ring place 0 0 inside)

-- a ring that is not full keeps all
pub kept-whole : (capacity : ℕ) (ring : List ℕ) → length ring < capacity → keep_last capacity (ring ++ 0 ∷ []) ≡ ring ++ 0 ∷ []
kept-whole capacity ring few =
    let none : length (ring ++ 0 ∷ []) - capacity ≡ 0 = omega (arith, length-append ring (0 ∷ [])) in
    rw none refl

-- a packet that is in the window has a place there
placed : (newest arrival place : ℤ) → place ≡ (arrival -ℤ (newest -ℤ WINDOW)) -ℤ pos 1 → (newest -ℤ WINDOW) <ℤ arrival → arrival ≤ℤ newest
    → (nat_abs place < MOST_SUMS) × (first_in newest +ℤ pos (nat_abs place) ≡ arrival)
placed newest arrival (pos place) is after until = (omega (arith, ints), omega (arith, ints))
placed newest arrival (negsuc place) is after until = absurd (omega (arith, ints))

pub taken-sum : (newest arrival place : ℤ) (ring new : List ℕ) (size : ℕ)
    → new ≡ set ring (nat_abs place) (get_or ring (nat_abs place) 0 + size) → length ring ≡ MOST_SUMS
    → place ≡ (arrival -ℤ (newest -ℤ WINDOW)) -ℤ pos 1 → (newest -ℤ WINDOW) <ℤ arrival → arrival ≤ℤ newest
    → sum new ≡ sum ring + size
taken-sum newest arrival place ring new size new_is full place_is after until =
    let inside : nat_abs place < length ring = rw full ((placed newest arrival place place_is after until).0) in
    rw new_is (more-sum ring (nat_abs place) size inside)

pub taken-above : (newest arrival place : ℤ) (ring new : List ℕ) (size : ℕ)
    → new ≡ set ring (nat_abs place) (get_or ring (nat_abs place) 0 + size) → length ring ≡ MOST_SUMS
    → place ≡ (arrival -ℤ (newest -ℤ WINDOW)) -ℤ pos 1 → (newest -ℤ WINDOW) <ℤ arrival → arrival ≤ℤ newest
    → (limit : ℤ) → sum_above limit (timed (first_in newest) new) ≡ sum_above limit (timed (first_in newest) ring) + weight limit (record { arrival = arrival; size = size })
taken-above newest arrival place ring new size new_is full place_is after until limit =
    let there = placed newest arrival place place_is after until in
    let inside : nat_abs place < length ring = rw full (there.0) in
    let time : first_in newest +ℤ pos (nat_abs place) ≡ arrival = there.1 in
    rw new_is (rw time at (more-above limit (first_in newest) ring (nat_abs place) size inside))
