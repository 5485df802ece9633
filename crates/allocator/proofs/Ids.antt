-- Ids differ as they do in another order, and in rising order those that are equal are neighbours.
use Rattle.std.proofs.Common.{◌≡◌, ℕ, ◌+◌, ◌-◌, ◌<◌, ◌≤◌, ◌==◌, ◌||◌, ◌&&◌, not, suc, true, false, Bool, cond, List, [], ◌∷◌, length, get_or, drop, All, refl, sym, ◌∙◌, subst, arith, length-drop}
use Rattle.std.specs.List.{sum_by}
use Rattle.std.specs.List.Sorted.{IsPermutation, IsNonDecreasing}
use Rattle.std.proofs.lemmas.Bool.Decides.{nat_tests}
use Rattle.std.proofs.lemmas.List.{get_or-drop, get_or_default}
use Rattle.std.proofs.lemmas.List.Sums.{sum_by-cons}
use Rattle.std.proofs.lemmas.List.Folds.{list_any_none}
use Rattle.std.proofs.lemmas.List.Sorted.{sum_by-IsPermutation}
use Rattle.allocator.specs.Streams.{has_number, all_differ}

abbrev hit : ℕ → ℕ → ℕ
hit n x = cond (x == n) 1 0

-- how often a number that is not there stands there, and one that is
not_there : (xs : List ℕ) (n : ℕ) → has_number xs n ≡ false → sum_by (hit n) xs ≡ 0
not_there [] n h = refl
not_there (x ∷ xs) n h = sum_by-cons (hit n) x xs ∙ at_test (x == n) h (not_there xs n)
  where
    at_test : (b : Bool) → (b || has_number xs n) ≡ false → (has_number xs n ≡ false → sum_by (hit n) xs ≡ 0) → cond b 1 0 + sum_by (hit n) xs ≡ 0
    at_test true h rest = absurd (let e : true ≡ false = h in cc)
    at_test false h rest = let r = rest h in omega arith

there : (xs : List ℕ) (n : ℕ) → has_number xs n ≡ true → 1 ≤ sum_by (hit n) xs
there [] n h = absurd (let e : false ≡ true = h in cc)
there (x ∷ xs) n h = rw (sum_by-cons (hit n) x xs) (at_test (x == n) h (there xs n))
  where
    at_test : (b : Bool) → (b || has_number xs n) ≡ true → (has_number xs n ≡ true → 1 ≤ sum_by (hit n) xs) → 1 ≤ cond b 1 0 + sum_by (hit n) xs
    at_test true h rest = omega arith
    at_test false h rest = let r = rest h in omega arith

both_true : (a b : Bool) → (not a && b) ≡ true → (a ≡ false) × (b ≡ true)
both_true true b h = absurd (let e : false ≡ true = h in cc)
both_true false b h = (refl, h)

-- numbers differ exactly where none stands there more than once
differ_once : (xs : List ℕ) → all_differ xs ≡ true → (n : ℕ) → sum_by (hit n) xs ≤ 1
differ_once [] h n = omega arith
differ_once (x ∷ xs) h n =
    let parts = both_true (has_number xs x) (all_differ xs) h in
    rw (sum_by-cons (hit n) x xs) (at_test (x == n) refl parts.0 (differ_once xs parts.1 n))
  where
    at_test : (b : Bool) → (x == n) ≡ b → has_number xs x ≡ false → sum_by (hit n) xs ≤ 1 → cond b 1 0 + sum_by (hit n) xs ≤ 1
    at_test true e none rest =
        let is : x ≡ n = grind (arith, nat_tests) in
        let zero_times : sum_by (hit n) xs ≡ 0 = not_there xs n (subst (λ k. has_number xs k ≡ false) is none) in omega arith
    at_test false e none rest = omega arith

itself : (x : ℕ) → hit x x ≡ 1
itself x = let e : (x == x) ≡ true = grind (arith, nat_tests) in rw e refl

once_differ : (xs : List ℕ) → ((n : ℕ) → sum_by (hit n) xs ≤ 1) → all_differ xs ≡ true
once_differ [] h = refl
once_differ (x ∷ xs) h = at_test (has_number xs x) refl (once_differ xs (λ n. (let e : sum_by (hit n) (x ∷ xs) ≡ hit n x + sum_by (hit n) xs = sum_by-cons (hit n) x xs in let m = h n in less (hit n x) (sum_by (hit n) xs) (sum_by (hit n) (x ∷ xs)) e m)))
  where
    less : (a b c : ℕ) → c ≡ a + b → c ≤ 1 → b ≤ 1
    less a b c e h = omega arith

    twice : (a b c : ℕ) → c ≡ a + b → a ≡ 1 → 1 ≤ b → c ≤ 1 → ⊥
    twice a b c e f g h = absurd (omega arith)

    at_test : (b : Bool) → has_number xs x ≡ b → all_differ xs ≡ true → (not b && all_differ xs) ≡ true
    at_test true e rest = absurd (twice (hit x x) (sum_by (hit x) xs) (sum_by (hit x) (x ∷ xs)) (sum_by-cons (hit x) x xs) (itself x) (there xs x e) (h x))
    at_test false e rest = rest

alike : (a b : Bool) → (a ≡ true → b ≡ true) → (b ≡ true → a ≡ true) → a ≡ b
alike true b f g = sym (f refl)
alike false true f g = g refl
alike false false f g = refl

-- in another order
pub all_differ-IsPermutation : (xs ys : List ℕ) → IsPermutation xs ys → all_differ ys ≡ all_differ xs
all_differ-IsPermutation xs ys moved =
    alike (all_differ ys) (all_differ xs)
    (λ h. once_differ xs (λ n. (let e : sum_by (hit n) ys ≡ sum_by (hit n) xs = sum_by-IsPermutation (hit n) xs ys moved in subst (λ k. k ≤ 1) e (differ_once ys h n))))
    (λ h. once_differ ys (λ n. (let e : sum_by (hit n) ys ≡ sum_by (hit n) xs = sum_by-IsPermutation (hit n) xs ys moved in subst (λ k. k ≤ 1) (sym e) (differ_once xs h n))))

-- in rising order the rest does not fall below what comes before it
pub rest_above : (xs : List ℕ) (i : ℕ) → IsNonDecreasing xs → i < length xs → All (λ x. get_or xs i 0 ≤ x) (drop (i + 1) xs)
rest_above xs i rising l = λ k d h. next k d h
  where
    next : (k d : ℕ) → k < length (drop (i + 1) xs) → get_or xs i 0 ≤ get_or (drop (i + 1) xs) k d
    next k d h =
        let in_range : i + 1 + k < length xs = let n : length (drop (i + 1) xs) ≡ length xs - (i + 1) = length-drop (i + 1) xs in omega arith in
        let at : get_or (drop (i + 1) xs) k d ≡ get_or xs (i + 1 + k) d = get_or-drop (i + 1) xs k d in
        let same : get_or xs (i + 1 + k) d ≡ get_or xs (i + 1 + k) 0 = get_or_default xs (i + 1 + k) d 0 in_range in
        let up : get_or xs i 0 ≤ get_or xs (i + 1 + k) 0 = rising i (i + 1 + k) 0 (omega arith) in_range in
        rw (at, same) up

next_is : (x : ℕ) (xs : List ℕ) (n : ℕ) → IsNonDecreasing (x ∷ xs) → n ≤ x → (x == n) ≡ has_number (x ∷ xs) n
next_is x xs n rising l = at_test (x == n) refl
  where
    above : n < x → All (λ y. (y == n) ≡ false) xs
    above h k d i =
        let up : x ≤ get_or xs k d = rising 0 (suc k) d (omega arith) (omega arith) in differ (get_or xs k d) n (omega arith)
      where
        differ : (a b : ℕ) → b < a → (a == b) ≡ false
        differ a b h = grind (arith, nat_tests)

    at_test : (b : Bool) → (x == n) ≡ b → b ≡ (b || has_number xs n)
    at_test true e = refl
    at_test false e = let more : n < x = grind (arith, nat_tests) in sym (list_any_none (λ y. y == n) xs (above more))

pub next_stands : (xs : List ℕ) (n : ℕ) → 1 ≤ length xs → IsNonDecreasing xs → All (λ x. n ≤ x) xs → (get_or xs 0 0 == n) ≡ has_number xs n
next_stands [] n l rising above = absurd (omega arith)
next_stands (x ∷ xs) n l rising above = next_is x xs n rising (above 0 0 l)
