-- Streams that are put into a list, each in its place: how many, which, and in which order.
use Rattle.std.proofs.Common.{◌≡◌, ℕ, suc, ◌+◌, Bool, true, false, not, cond, Option, List, [], ◌∷◌, ◌++◌, length, All, AllPairs, fold, refl, ap, ◌∙◌, subst, arith, unwrap_or}
use Rattle.std.specs.List.{position, position_or_len, insert}
use Rattle.std.proofs.lemmas.Bool.Decides.{nat_tests}
use Rattle.std.proofs.lemmas.List.Elements.{All-nil, All-cons, All-head, All-tail, All-weaker}
use Rattle.std.proofs.lemmas.List.Sums.{prefix_len-le-length}
use Rattle.std.proofs.lemmas.List.{append-nil}
use Rattle.std.specs.List.Sorted.{IsPermutation}
use Rattle.std.proofs.lemmas.List.Sorted.{IsPermutation-refl, IsPermutation-insert, IsPermutation-trans, IsPermutation-middle, IsPermutation-append_left}
use Rattle.std.proofs.lemmas.List.Kept.{AllPairs-cons}
use Rattle.allocator.specs.declared.stream.Stream.{Stream}
use Rattle.allocator.specs.Streams.{placed}

-- a place is before the first that the stream goes before
pub placed_is : (before : Stream → Stream → Bool) (xs : List Stream) (x : Stream) → insert xs (position_or_len (before x) xs) x ≡ placed before xs x
placed_is before [] x = refl
placed_is before (y ∷ ys) x = at_test before y ys x (before x y) refl (placed_is before ys x)
  where
    at_test : (before : Stream → Stream → Bool) (y : Stream) (ys : List Stream) (x : Stream) (b : Bool) → before x y ≡ b
        → insert ys (position_or_len (before x) ys) x ≡ placed before ys x
        → insert (y ∷ ys) (cond (not b) (1 + position_or_len (before x) ys) 0) x ≡ cond b (x ∷ y ∷ ys) (y ∷ placed before ys x)
    at_test before y ys x true e h = refl
    at_test before y ys x false e h =
        let one : 1 + position_or_len (before x) ys ≡ suc (position_or_len (before x) ys) = omega arith in
        rw one (ap (λ zs. y ∷ zs) h)

-- the place as the code asks for it
pub place_is : (p : Stream → Bool) (xs : List Stream) → unwrap_or (position p xs) (length xs) ≡ position_or_len p xs
place_is p xs = grind (arith, nat_tests, prefix_len-le-length (λ x. not (p x)) xs)

pub put_is : (before : Stream → Stream → Bool) (xs ys : List Stream) (x : Stream) (place : Option ℕ) → ys ≡ xs → place ≡ position (before x) ys
    → insert xs (unwrap_or place (length xs)) x ≡ placed before xs x
put_is before xs ys x place same e =
    let at_xs : place ≡ position (before x) xs = e ∙ ap (position (before x)) same in
    let at_first : unwrap_or place (length xs) ≡ position_or_len (before x) xs = ap (λ o. unwrap_or o (length xs)) at_xs ∙ place_is (before x) xs in
    ap (λ k. insert xs k x) at_first ∙ placed_is before xs x

length-placed : (before : Stream → Stream → Bool) (xs : List Stream) (x : Stream) → length (placed before xs x) ≡ suc (length xs)
length-placed before [] x = refl
length-placed before (y ∷ ys) x = at_test before y ys x (before x y) (length-placed before ys x)
  where
    at_test : (before : Stream → Stream → Bool) (y : Stream) (ys : List Stream) (x : Stream) (b : Bool)
        → length (placed before ys x) ≡ suc (length ys) → length (cond b (x ∷ y ∷ ys) (y ∷ placed before ys x)) ≡ suc (suc (length ys))
    at_test before y ys x true h = refl
    at_test before y ys x false h = ap suc h

pub length-placed_all : (before : Stream → Stream → Bool) (xs ys : List Stream) → length (fold (placed before) xs ys) ≡ length xs + length ys
length-placed_all before xs [] = omega arith
length-placed_all before xs (y ∷ ys) =
    omega (arith, length-placed_all before (placed before xs y) ys, length-placed before xs y)

-- what holds of each
pub All-placed : (P : Stream → Type 0) (before : Stream → Stream → Bool) (xs : List Stream) (x : Stream) → P x → All P xs → All P (placed before xs x)
All-placed P before [] x p all = All-cons P x [] p all
All-placed P before (y ∷ ys) x p all =
    at_test P before y ys x (before x y) p all (All-placed P before ys x p (All-tail P y ys all))
  where
    at_test : (P : Stream → Type 0) (before : Stream → Stream → Bool) (y : Stream) (ys : List Stream) (x : Stream) (b : Bool)
        → P x → All P (y ∷ ys) → All P (placed before ys x) → All P (cond b (x ∷ y ∷ ys) (y ∷ placed before ys x))
    at_test P before y ys x true p all h = All-cons P x (y ∷ ys) p all
    at_test P before y ys x false p all h = All-cons P y (placed before ys x) (All-head P y ys all) h

pub All-placed_all : (P : Stream → Type 0) (before : Stream → Stream → Bool) (xs ys : List Stream) → All P xs → All P ys → All P (fold (placed before) xs ys)
All-placed_all P before xs [] all more = all
All-placed_all P before xs (y ∷ ys) all more =
    All-placed_all P before (placed before xs y) ys (All-placed P before xs y (All-head P y ys more) all) (All-tail P y ys more)

-- pairs of a list that has a first
pub AllPairs-head : (R : Stream → Stream → Type 0) (s : Stream) (ss : List Stream) → AllPairs R (s ∷ ss) → All (R s) ss
AllPairs-head R s ss pairs = λ k d l. pairs 0 (suc k) d (omega arith) (omega arith)

pub AllPairs-tail : (R : Stream → Stream → Type 0) (s : Stream) (ss : List Stream) → AllPairs R (s ∷ ss) → AllPairs R ss
AllPairs-tail R s ss pairs = λ i j d l m. pairs (suc i) (suc j) d (omega arith) (omega arith)

-- what an order and its test have to do with each other
pub record Sorts (R : Stream → Stream → Type 0) (before : Stream → Stream → Bool) : Type 0 where
  pub then : (a b c : Stream) → R a b → R b c → R a c
  pub is : (a b : Stream) → before a b ≡ true → R a b

-- x, if it does not go before it, comes after it
abbrev pub ComesAfter : (Stream → Stream → Type 0) → (Stream → Stream → Bool) → Stream → Stream → Type 0
ComesAfter R before x y = before x y ≡ false → R y x

pub AllPairs-placed : (R : Stream → Stream → Type 0) (before : Stream → Stream → Bool) (xs : List Stream) (x : Stream) → Sorts R before
    → All (ComesAfter R before x) xs → AllPairs R xs → AllPairs R (placed before xs x)
AllPairs-placed R before [] x sorts after pairs = AllPairs-cons R x [] (All-nil (R x)) pairs
AllPairs-placed R before (y ∷ ys) x sorts after pairs =
    at_test (before x y) refl (AllPairs-placed R before ys x sorts (All-tail (ComesAfter R before x) y ys after) (AllPairs-tail R y ys pairs))
  where
    at_test : (b : Bool) → before x y ≡ b → AllPairs R (placed before ys x) → AllPairs R (cond b (x ∷ y ∷ ys) (y ∷ placed before ys x))
    at_test true e h =
        AllPairs-cons R x (y ∷ ys)
        (All-cons (R x) y ys (sorts.is x y e) (All-weaker (R y) (R x) (λ z r. sorts.then x y z (sorts.is x y e) r) ys (AllPairs-head R y ys pairs)))
        pairs
    at_test false e h =
        AllPairs-cons R y (placed before ys x)
        (All-placed (R y) before ys x (All-head (ComesAfter R before x) y ys after e) (AllPairs-head R y ys pairs))
        h

-- and it has the same streams
IsPermutation-placed : (before : Stream → Stream → Bool) (xs : List Stream) (x : Stream) → IsPermutation (x ∷ xs) (placed before xs x)
IsPermutation-placed before xs x =
    subst (IsPermutation (x ∷ xs)) (placed_is before xs x) (IsPermutation-insert xs (position_or_len (before x) xs) x)

pub IsPermutation-placed_all : (before : Stream → Stream → Bool) (xs ys : List Stream) → IsPermutation (xs ++ ys) (fold (placed before) xs ys)
IsPermutation-placed_all before xs [] = subst (IsPermutation (xs ++ [])) (append-nil xs) (IsPermutation-refl (xs ++ []))
IsPermutation-placed_all before xs (y ∷ ys) =
    IsPermutation-trans (xs ++ y ∷ ys) (y ∷ (xs ++ ys)) (fold (placed before) (placed before xs y) ys) (IsPermutation-middle xs y ys)
    (IsPermutation-trans (y ∷ (xs ++ ys)) (placed before xs y ++ ys) (fold (placed before) (placed before xs y) ys)
    (IsPermutation-append_left ys (y ∷ xs) (placed before xs y) (IsPermutation-placed before xs y))
    (IsPermutation-placed_all before (placed before xs y) ys))
