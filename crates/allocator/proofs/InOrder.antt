-- The order of allocation has the same streams, and each goes before all later ones.
use Rattle.std.proofs.Common.{◌≡◌, inl, inr, ◌<◌, true, List, [], ◌∷◌, length, All, AllPairs, fold, refl, arith}
use Rattle.std.proofs.lemmas.Bool.Decides.{nat_tests}
use Rattle.std.proofs.lemmas.List.Elements.{All-nil, All-head, All-tail, All-weaker}
use Rattle.std.specs.List.Sorted.{IsPermutation}
use Rattle.allocator.specs.declared.stream.Stream.{Stream}
use Rattle.allocator.specs.Streams.{placed, HasLesserId}
use Rattle.allocator.specs.Order.{goes_before, GoesBefore, in_order}
use Rattle.allocator.proofs.Placed.{length-placed_all, All-placed, All-placed_all, AllPairs-head, AllPairs-tail, Sorts, ComesAfter, AllPairs-placed, IsPermutation-placed_all}

-- as many are in order, and what holds of each holds there
pub length-in_order : (streams : List Stream) → length (in_order streams) ≡ length streams
unfolding in_order
length-in_order streams = omega (arith, length-placed_all goes_before [] streams)

pub All-in_order : (P : Stream → Type 0) (streams : List Stream) → All P streams → All P (in_order streams)
unfolding in_order
All-in_order P streams all = All-placed_all P goes_before [] streams (All-nil P) all

pub in_order-none : in_order [] ≡ []
unfolding in_order
in_order-none = refl

-- the order of allocation
GoesBefore-then : (a b c : Stream) → GoesBefore a b → GoesBefore b c → GoesBefore a c
GoesBefore-then a b c (inl h) (inl k) = inl (omega arith)
GoesBefore-then a b c (inl h) (inr k) = inl (omega arith)
GoesBefore-then a b c (inr h) (inl k) = inl (omega arith)
GoesBefore-then a b c (inr h) (inr k) = inr (omega arith, omega arith)

goes_before-is : (a b : Stream) → goes_before a b ≡ true → GoesBefore a b
goes_before-is a b h = grind (arith, nat_tests)

by_weight_sorts : Sorts GoesBefore goes_before
by_weight_sorts = record { then = GoesBefore-then; is = goes_before-is }

after_by_weight : (x y : Stream) → y.id < x.id → ComesAfter GoesBefore goes_before x y
after_by_weight x y lesser h = grind (arith, nat_tests)

order-placed_all : (xs rest : List Stream) → All (λ y. All (HasLesserId y) rest) xs → AllPairs HasLesserId rest → AllPairs GoesBefore xs
    → AllPairs GoesBefore (fold (placed goes_before) xs rest)
order-placed_all xs [] lesser rising pairs = pairs
order-placed_all xs (s ∷ ss) lesser rising pairs =
    order-placed_all (placed goes_before xs s) ss
    (All-placed (λ y. All (HasLesserId y) ss) goes_before xs s (AllPairs-head HasLesserId s ss rising)
    (All-weaker (λ y. All (HasLesserId y) (s ∷ ss)) (λ y. All (HasLesserId y) ss) (λ y h. All-tail (HasLesserId y) s ss h) xs lesser))
    (AllPairs-tail HasLesserId s ss rising)
    (AllPairs-placed GoesBefore goes_before xs s by_weight_sorts
    (All-weaker (λ y. All (HasLesserId y) (s ∷ ss)) (ComesAfter GoesBefore goes_before s) (λ y h. after_by_weight s y (All-head (HasLesserId y) s ss h)) xs lesser)
    pairs)

-- in the order of allocation each stream goes before all later ones
pub in_order_sorts : (streams : List Stream) → AllPairs HasLesserId streams → AllPairs GoesBefore (in_order streams)
unfolding in_order
in_order_sorts streams rising =
    order-placed_all [] streams (All-nil (λ y. All (HasLesserId y) streams)) rising (λ i j d l m. absurd (omega arith))

pub IsPermutation-in_order : (streams : List Stream) → IsPermutation streams (in_order streams)
unfolding in_order
IsPermutation-in_order streams = IsPermutation-placed_all goes_before [] streams
