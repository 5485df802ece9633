-- A change of a set is one of a map from ids to streams, and leaves a set.
use Rattle.std.proofs.Common.{◌≡◌, ℕ, ◌+◌, ◌≤◌, ◌==◌, ◌&&◌, ◌||◌, Bool, true, false, not, cond, Option, None, Some, List, [], ◌∷◌, ◌++◌, length, map, All, AllPairs, filter, fold, refl, ap, sym, ◌∙◌, subst, arith, lit≤}
use Rattle.std.proofs.lemmas.Bool.Decides.{nat_tests}
use Rattle.std.proofs.lemmas.List.Elements.{All-nil, All-head, All-tail, All-filter, All-weaker, filter_passes}
use Rattle.std.proofs.lemmas.List.Sums.{AllPass-from_list_all}
use Rattle.std.proofs.lemmas.List.Kept.{AllPairs-filter}
use Rattle.gcc_units.specs.declared.limits.TheConstants.{MOST_STREAMS}
use Rattle.allocator.specs.declared.stream.Stream.{Stream}
use Rattle.allocator.specs.Streams.{IsSound, is_sound, are_sound, id_of, has_id, has_number, all_differ, ids_differ, found, found_after, placed, has_lesser_id, stays, changed, HasLesserId, IsStreamSet}
use Rattle.allocator.proofs.Placed.{length-placed_all, All-placed, All-placed_all, Sorts, ComesAfter, AllPairs-placed}

-- how many there are after a change
pub length-changed : (streams set : List Stream) (removed : List ℕ)
    → length (changed streams set removed) ≡ length (filter (stays set removed) streams) + length set
unfolding changed
length-changed streams set removed = length-placed_all has_lesser_id (filter (stays set removed) streams) set

-- the count that the code makes
pub counted_is : {streams streams' set set' : List Stream} {removed removed' : List ℕ} {n : ℕ} → streams ≡ streams' → set ≡ set' → removed ≡ removed'
    → n ≡ length (filter (stays set removed) streams) → n + length set ≡ length (changed streams' set' removed')
counted_is {streams} {streams'} {set} {set'} {removed} {removed'} {n} a b c h =
    ap (λ k. k + length set) h ∙ sym (length-changed streams set removed)
    ∙ ap (λ xs. length (changed xs set removed)) a ∙ ap (λ xs. length (changed streams' xs removed)) b ∙ ap (λ xs. length (changed streams' set' xs)) c

pub changed_same : {streams streams' set set' : List Stream} {removed removed' : List ℕ} → streams ≡ streams' → set ≡ set' → removed ≡ removed'
    → changed streams set removed ≡ changed streams' set' removed'
changed_same {streams} {streams'} {set} {set'} {removed} {removed'} a b c =
    ap (λ xs. changed xs set removed) a ∙ ap (λ xs. changed streams' xs removed) b ∙ ap (λ xs. changed streams' set' xs) c

-- the test of soundness
pub sound-is_sound : (s : Stream) → is_sound s ≡ true → IsSound s
sound-is_sound s h = record { order = grind (arith, nat_tests); rate = grind (arith, nat_tests); least = grind (arith, nat_tests); greatest = grind (arith, nat_tests) }

pub is_sound-sound : (s : Stream) → IsSound s → is_sound s ≡ true
is_sound-sound s h = grind (arith, nat_tests)

pub sound-are_sound : (streams : List Stream) → are_sound streams ≡ true → All IsSound streams
sound-are_sound streams h = All-weaker (λ s. is_sound s ≡ true) IsSound sound-is_sound streams (AllPass-from_list_all is_sound streams h)

-- no streams
pub IsStreamSet-none : IsStreamSet []
IsStreamSet-none = record { few = lit≤ tt; sound = All-nil IsSound; rising = λ i j d l m. absurd (omega arith) }

-- tests that are made of others
either-false : (a b : Bool) → (a || b) ≡ false → (a ≡ false) × (b ≡ false)
either-false true b h = absurd (let e : true ≡ false = h in cc)
either-false false b h = (refl, h)

both-true : (a b : Bool) → (a && b) ≡ true → (a ≡ true) × (b ≡ true)
both-true true b h = (refl, h)
both-true false b h = absurd (let e : false ≡ true = h in cc)

not-true : (b : Bool) → not b ≡ true → b ≡ false
not-true true h = absurd (let e : false ≡ true = h in cc)
not-true false h = refl

-- a number in two lists, joined
has_number-append : (xs ys : List ℕ) (id : ℕ) → has_number (xs ++ ys) id ≡ (has_number xs id || has_number ys id)
has_number-append [] ys id = refl
has_number-append (x ∷ xs) ys id = at_test (x == id) (has_number-append xs ys id)
  where
    at_test : (b : Bool) → has_number (xs ++ ys) id ≡ (has_number xs id || has_number ys id)
        → (b || has_number (xs ++ ys) id) ≡ ((b || has_number xs id) || has_number ys id)
    at_test true h = refl
    at_test false h = h

-- a number among ids
has_number-ids : (set : List Stream) (id : ℕ) → has_number (map id_of set) id ≡ has_id set id
has_number-ids [] id = refl
has_number-ids (s ∷ ss) id = ap (λ b. (s.id == id) || b) (has_number-ids ss id)

-- of lists that differ together, the first differs
all_differ-left : (xs ys : List ℕ) → all_differ (xs ++ ys) ≡ true → all_differ xs ≡ true
all_differ-left [] ys h = refl
all_differ-left (x ∷ xs) ys h =
    let parts = both-true (not (has_number (xs ++ ys) x)) (all_differ (xs ++ ys)) h in
    let out = either-false (has_number xs x) (has_number ys x) (sym (has_number-append xs ys x) ∙ not-true (has_number (xs ++ ys) x) parts.0) in
    rw (out.0) (all_differ-left xs ys parts.1)

-- the streams that are set have ids that differ
pub set_ids_differ : (set : List Stream) (removed : List ℕ) → ids_differ set removed ≡ true → all_differ (map id_of set) ≡ true
set_ids_differ set removed h = all_differ-left (map id_of set) removed h

first_differs : (s : Stream) (ss : List Stream) → all_differ (map id_of (s ∷ ss)) ≡ true → has_id ss s.id ≡ false
first_differs s ss h =
    let parts = both-true (not (has_number (map id_of ss) s.id)) (all_differ (map id_of ss)) h in
    sym (has_number-ids ss s.id) ∙ not-true (has_number (map id_of ss) s.id) parts.0

others_differ : (s : Stream) (ss : List Stream) → all_differ (map id_of (s ∷ ss)) ≡ true → all_differ (map id_of ss) ≡ true
others_differ s ss h =
    let parts = both-true (not (has_number (map id_of ss) s.id)) (all_differ (map id_of ss)) h in parts.1

-- none of these streams has an id that is set
abbrev IsApart : List Stream → Stream → Type 0
IsApart set s = has_id set s.id ≡ false

apart_from_rest : (t : Stream) (ts : List Stream) (s : Stream) → IsApart (t ∷ ts) s → IsApart ts s
apart_from_rest t ts s h = let parts = either-false (t.id == s.id) (has_id ts s.id) h in parts.1

apart_from_first : (t : Stream) (ts : List Stream) (s : Stream) → IsApart (t ∷ ts) s → t.id ≡ s.id → ⊥
apart_from_first t ts s h e =
    let parts = either-false (t.id == s.id) (has_id ts s.id) h in let f : (t.id == s.id) ≡ false = parts.0 in grind (arith, nat_tests)

kept_apart : (set : List Stream) (removed : List ℕ) (streams : List Stream) → All (IsApart set) (filter (stays set removed) streams)
kept_apart set removed streams =
    All-weaker (λ s. stays set removed s ≡ true) (IsApart set)
    (λ s h. (let parts = both-true (not (has_id set s.id)) (not (has_number removed s.id)) h in not-true (has_id set s.id) parts.0))
    (filter (stays set removed) streams) (filter_passes (stays set removed) streams)

-- one more in its place, the rest are apart from those that are still to come
placed_apart : (s : Stream) (ss xs : List Stream) → all_differ (map id_of (s ∷ ss)) ≡ true → All (IsApart (s ∷ ss)) xs → All (IsApart ss) (placed has_lesser_id xs s)
placed_apart s ss xs differ apart =
    All-placed (IsApart ss) has_lesser_id xs s (first_differs s ss differ) (All-weaker (IsApart (s ∷ ss)) (IsApart ss) (apart_from_rest s ss) xs apart)

by_id_sorts : Sorts HasLesserId has_lesser_id
by_id_sorts = record { then = λ a b c r q. omega arith; is = λ a b h. grind (arith, nat_tests) }

after_by_id : (x y : Stream) → (x.id ≡ y.id → ⊥) → ComesAfter HasLesserId has_lesser_id x y
after_by_id x y differ = λ h. grind (arith, nat_tests)

rising-placed_all : (xs set : List Stream) → all_differ (map id_of set) ≡ true → All (IsApart set) xs → AllPairs HasLesserId xs
    → AllPairs HasLesserId (fold (placed has_lesser_id) xs set)
rising-placed_all xs [] differ apart rising = rising
rising-placed_all xs (s ∷ ss) differ apart rising =
    rising-placed_all (placed has_lesser_id xs s) ss (others_differ s ss differ) (placed_apart s ss xs differ apart)
    (AllPairs-placed HasLesserId has_lesser_id xs s by_id_sorts
    (All-weaker (IsApart (s ∷ ss)) (ComesAfter HasLesserId has_lesser_id s) (λ y h. after_by_id s y (apart_from_first s ss y h)) xs apart)
    rising)

-- a change of a set leaves a set
pub IsStreamSet-changed : (streams set : List Stream) (removed : List ℕ) → IsStreamSet streams → are_sound set ≡ true → ids_differ set removed ≡ true
    → length (changed streams set removed) ≤ MOST_STREAMS → IsStreamSet (changed streams set removed)
unfolding changed
IsStreamSet-changed streams set removed was sound differ few = record {
  few = few;
  sound = All-placed_all IsSound has_lesser_id (filter (stays set removed) streams) set (All-filter (stays set removed) IsSound streams was.sound) (sound-are_sound set sound);
  rising = rising-placed_all (filter (stays set removed) streams) set (set_ids_differ set removed differ) (kept_apart set removed streams)
      (AllPairs-filter HasLesserId (stays set removed) streams was.rising);
}

-- what an id names once a stream is in its place
found-placed : (xs : List Stream) (x : Stream) (id : ℕ) → All (λ y. x.id ≡ y.id → ⊥) xs
    → found (placed has_lesser_id xs x) id ≡ cond (x.id == id) (Some x) (found xs id)
found-placed [] x id apart = refl
found-placed (y ∷ ys) x id apart =
    at_test (has_lesser_id x y) (found-placed ys x id (All-tail (λ z. x.id ≡ z.id → ⊥) y ys apart))
  where
    swapped : (a b : Bool) (o : Option Stream) → (a ≡ true → b ≡ true → ⊥) → cond a (Some y) (cond b (Some x) o) ≡ cond b (Some x) (cond a (Some y) o)
    swapped true true o h = absurd (h refl refl)
    swapped true false o h = refl
    swapped false b o h = refl

    both : (y.id == id) ≡ true → (x.id == id) ≡ true → ⊥
    both e f = let differ : x.id ≡ y.id → ⊥ = All-head (λ z. x.id ≡ z.id → ⊥) y ys apart in grind (arith, nat_tests)

    at_test : (b : Bool) → found (placed has_lesser_id ys x) id ≡ cond (x.id == id) (Some x) (found ys id)
        → found (cond b (x ∷ y ∷ ys) (y ∷ placed has_lesser_id ys x)) id ≡ cond (x.id == id) (Some x) (cond (y.id == id) (Some y) (found ys id))
    at_test true h = refl
    at_test false h = ap (λ o. cond (y.id == id) (Some y) o) h ∙ swapped (y.id == id) (x.id == id) (found ys id) both

found-placed_all : (xs set : List Stream) (id : ℕ) → all_differ (map id_of set) ≡ true → All (IsApart set) xs
    → found (fold (placed has_lesser_id) xs set) id ≡ cond (has_id set id) (found set id) (found xs id)
found-placed_all xs [] id differ apart = refl
found-placed_all xs (s ∷ ss) id differ apart =
    found-placed_all (placed has_lesser_id xs s) ss id (others_differ s ss differ) (placed_apart s ss xs differ apart)
    ∙ ap (λ o. cond (has_id ss id) (found ss id) o)
    (found-placed xs s id (All-weaker (IsApart (s ∷ ss)) (λ y. s.id ≡ y.id → ⊥) (apart_from_first s ss) xs apart))
    ∙ at_tests (s.id == id) (has_id ss id) once
  where
    once : (s.id == id) ≡ true → has_id ss id ≡ true → ⊥
    once e h = let is : s.id ≡ id = grind (arith, nat_tests) in let no : has_id ss id ≡ false = subst (λ i. has_id ss i ≡ false) is (first_differs s ss differ) in cc

    at_tests : (a b : Bool) → (a ≡ true → b ≡ true → ⊥)
        → cond b (found ss id) (cond a (Some s) (found xs id)) ≡ cond (a || b) (cond a (Some s) (found ss id)) (found xs id)
    at_tests true true h = absurd (h refl refl)
    at_tests true false h = refl
    at_tests false true h = refl
    at_tests false false h = refl

-- what an id that is not set names among those that are left
found-kept : (streams set : List Stream) (removed : List ℕ) (id : ℕ) → has_id set id ≡ false
    → found (filter (stays set removed) streams) id ≡ cond (has_number removed id) None (found streams id)
found-kept [] set removed id h = at_test (has_number removed id)
  where
    at_test : (b : Bool) → found [] id ≡ cond b None (found [] id)
    at_test true = refl
    at_test false = refl
found-kept (y ∷ ys) set removed id h = at_test (y.id == id) refl (found-kept ys set removed id h)
  where
    skipped : (b : Bool) (ks : List Stream) → (y.id == id) ≡ false → found (cond b (y ∷ ks) ks) id ≡ found ks id
    skipped true ks e = rw e refl
    skipped false ks e = refl

    taken : (r : Bool) (ks : List Stream) → (y.id == id) ≡ true → found ks id ≡ cond r None (found ys id) → found (cond (not r) (y ∷ ks) ks) id ≡ cond r None (Some y)
    taken true ks e rest = rest
    taken false ks e rest = rw e refl

    stays_is : y.id ≡ id → stays set removed y ≡ not (has_number removed id)
    stays_is is = ap (λ i. not (has_id set i) && not (has_number removed i)) is ∙ ap (λ b. not b && not (has_number removed id)) h

    at_test : (a : Bool) → (y.id == id) ≡ a
        → found (filter (stays set removed) ys) id ≡ cond (has_number removed id) None (found ys id)
        → found (cond (stays set removed y) (y ∷ filter (stays set removed) ys) (filter (stays set removed) ys)) id
        ≡ cond (has_number removed id) None (cond a (Some y) (found ys id))
    at_test true e rest =
        let is : y.id ≡ id = grind (arith, nat_tests) in
        ap (λ b. found (cond b (y ∷ filter (stays set removed) ys) (filter (stays set removed) ys)) id) (stays_is is)
        ∙ taken (has_number removed id) (filter (stays set removed) ys) e rest
    at_test false e rest = skipped (stays set removed y) (filter (stays set removed) ys) e ∙ rest

-- A change is one of a map from ids to streams: what is set is there, what is removed is not, and all else is as before.
pub found-changed : (streams set : List Stream) (removed : List ℕ) (id : ℕ) → ids_differ set removed ≡ true
    → found (changed streams set removed) id ≡ found_after streams set removed id
unfolding changed
found-changed streams set removed id differ =
    found-placed_all (filter (stays set removed) streams) set id (set_ids_differ set removed differ) (kept_apart set removed streams)
    ∙ at_test (has_id set id) refl
  where
    at_test : (b : Bool) → has_id set id ≡ b
        → cond b (found set id) (found (filter (stays set removed) streams) id) ≡ cond b (found set id) (cond (has_number removed id) None (found streams id))
    at_test true e = refl
    at_test false e = found-kept streams set removed id e
