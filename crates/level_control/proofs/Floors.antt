-- Floor and mean change are those of the list.
use Rattle.std.proofs.Common.{ℕ, ℤ, ◌≡◌, ◌≤◌, ◌<◌, ◌+◌, ◌==◌, ◌||◌, Bool, true, false, cond, Option, Some, None, List, [], ◌∷◌, ◌++◌, All, filter, fold, append_assoc, append-nil, le_trans, if◌then◌else◌, refl, sym, ap, subst, ◌∙◌, arith}
use Rattle.std.specs.Int.{int_min}
use Rattle.std.proofs.lemmas.Int.{ints, clamps}
use Rattle.std.proofs.lemmas.List.{map-append}
use Rattle.std.proofs.lemmas.List.Sums.{fold-append}
use Rattle.std.proofs.lemmas.List.Elements.{All-head, All-tail, All-nil, All-push, filter-append, filter_agree}
use Rattle.level_control.specs.declared.state.Delays.{Delays}
use Rattle.level_control.specs.declared.state.Drain.{Drain}
use Rattle.level_control.specs.declared.state.Shown.{Shown}
use Rattle.level_control.specs.Delays.{apart, changed, delays_after, floor_of, lesser_of, spell_of}
use Rattle.level_control.specs.Given.{Seen, AreInOrder}
use Rattle.level_control.specs.AsLists.{lesser, least, delays_of, differences, mean_change, change_of, in_spells}
use Rattle.level_control.proofs.Turns.{Turns, cuts, grows, goes_on, ends, IsSeen, Lasts}
use Rattle.level_control.proofs.Bases.{least-push}

-- all but the base are those of the report, whatever it does
next_is : (known next : Option Delays) (drain after_it : Option Drain) (x : Seen) (y : Shown) → IsSeen x y known → Turns drain y next after_it x.cut
    → (base : ℤ) × (next ≡ Some (record (delays_after known x.delay x.now) { base = base }))
next_is known next drain after_it x y sees turn =
    let same : (z : ℤ) → Some (record y.delays { base = z }) ≡ Some (record (delays_after known x.delay x.now) { base = z }) = λ z. ap (λ (k : Delays). Some (record k { base = z })) sees.delays in
    elim turn as (λ _. (base : ℤ) × (next ≡ Some (record (delays_after known x.delay x.now) { base = base }))) [
      | cuts before late is_cut n d ↦ (y.delays.base, n ∙ same y.delays.base)
      | grows none is_cut n d ↦ (y.delays.base, n ∙ same y.delays.base)
      | goes_on old rate more_falls was is_cut n d ↦ (y.delays.base, n ∙ same y.delays.base)
      | ends old rate no_fall was is_cut n d ↦ (int_min old.low y.delays.last, n ∙ same (int_min old.low y.delays.last))
    ]

-- ---- the mean change

abbrev pub last_in : ℤ → List ℤ → ℤ
last_in first more = fold (λ (a b : ℤ). b) first more

differences-push : (first : ℤ) (more : List ℤ) (next : ℤ) → differences first (more ++ next ∷ []) ≡ differences first more ++ apart next (last_in first more) ∷ []
differences-push first [] next = refl
differences-push first (second ∷ more) next = ap (λ (xs : List ℕ). apart second first ∷ xs) (differences-push second more next)

pub record KeepsChange (all : List Seen) (k : Delays) : Type 0 where
  pub first : ℤ
  pub more : List ℤ
  pub split : delays_of all ≡ first ∷ more
  pub last : k.last ≡ last_in first more
  pub change : k.change ≡ mean_change (differences first more)

abbrev pub HasChange : Option Delays → Option Drain → List Seen → Type 0
HasChange None drain all = all ≡ []
HasChange (Some k) drain all = KeepsChange all k

change-push : (known : Option Delays) (drain after_it : Option Drain) (all : List Seen) (x : Seen) (base : ℤ) → HasChange known drain all
    → HasChange (Some (record (delays_after known x.delay x.now) { base = base })) after_it (all ++ x ∷ [])
change-push None drain after_it all x base none = record {
  first = x.delay;
  more = [];
  split = ap (λ (xs : List Seen). delays_of (xs ++ x ∷ [])) none;
  last = refl;
  change = refl;
}
change-push (Some k) drain after_it all x base has = record {
  first = has.first;
  more = has.more ++ x.delay ∷ [];
  split = map-append (λ (z : Seen). z.delay) all (x ∷ []) ∙ ap (λ (xs : List ℤ). xs ++ x.delay ∷ []) has.split;
  last = sym (fold-append (λ (a b : ℤ). b) has.first has.more (x.delay ∷ []));
  change =
      ap (λ (c : ℕ). changed c x.delay k.last) has.change ∙ ap (λ (z : ℤ). changed (mean_change (differences has.first has.more)) x.delay z) has.last
      ∙ sym (ap mean_change (differences-push has.first has.more x.delay) ∙ fold-append _ 0 (differences has.first has.more) (apart x.delay (last_in has.first has.more) ∷ []));
}

change-turn : (known next : Option Delays) (drain after_it : Option Drain) (all : List Seen) (x : Seen) (y : Shown) → HasChange known drain all → IsSeen x y known
    → Turns drain y next after_it x.cut → HasChange next after_it (all ++ x ∷ [])
change-turn known next drain after_it all x y has sees turn =
    let n : (base : ℤ) × (next ≡ Some (record (delays_after known x.delay x.now) { base = base })) = next_is known next drain after_it x y sees turn in
    subst (λ (o : Option Delays). HasChange o after_it (all ++ x ∷ [])) (sym n.1) (change-push known drain after_it all x n.0 has)

pub change-is : (all : List Seen) (k : Delays) → KeepsChange all k → k.change ≡ change_of (delays_of all)
change-is all k has = has.change ∙ sym (ap change_of has.split)

change-start : (known : Option Delays) (drain : Option Drain) (all : List Seen) → HasChange known drain all → HasChange known None all
change-start None drain all has = has
change-start (Some k) drain all has = has

pub change-lasts : Lasts HasChange
change-lasts = record { first = refl; turn = λ known next drain after_it all x y has sees turn ended. change-turn known next drain after_it all x y has sees turn; start = change-start }

-- ---- the floor

abbrev of_spell : ℕ → List Seen → List Seen
of_spell spell xs = filter (λ (z : Seen). spell_of z.now == spell) xs

abbrev before_spell : ℕ → List Seen → List Seen
before_spell spell xs = filter (λ (z : Seen). spell_of z.now + 1 == spell) xs

filter-none : {X : Type 0} (p : X → Bool) (xs : List X) → All (λ x. p x ≡ false) xs → filter p xs ≡ []
filter-none p [] none = refl
filter-none p (x ∷ xs) none = rw (All-head (λ z. p z ≡ false) x xs none) (filter-none p xs (All-tail (λ z. p z ≡ false) x xs none))

lesser-both : (d : ℤ) (a b : Option ℤ) → lesser (Some d) (lesser a b) ≡ lesser (lesser (Some d) a) (lesser (Some d) b)
lesser-both d None None = ap Some (omega (arith, ints, clamps))
lesser-both d None (Some b) = ap Some (omega (arith, ints, clamps))
lesser-both d (Some a) None = ap Some (omega (arith, ints, clamps))
lesser-both d (Some a) (Some b) = ap Some (omega (arith, ints, clamps))

lesser-second : (d : ℤ) (a b : Option ℤ) → lesser (Some d) (lesser a b) ≡ lesser a (lesser (Some d) b)
lesser-second d None b = refl
lesser-second d (Some a) None = ap Some (omega (arith, ints, clamps))
lesser-second d (Some a) (Some b) = ap Some (omega (arith, ints, clamps))

lesser-first : (d : ℤ) (a b : Option ℤ) → lesser (Some d) (lesser a b) ≡ lesser (lesser (Some d) a) b
lesser-first d None b = refl
lesser-first d (Some a) None = refl
lesser-first d (Some a) (Some b) = ap Some (omega (arith, ints, clamps))

least-either : (p q : Seen → Bool) (xs : List Seen) → least (delays_of (filter (λ (z : Seen). p z || q z) xs)) ≡ lesser (least (delays_of (filter p xs))) (least (delays_of (filter q xs)))
least-either p q [] = refl
least-either p q (x ∷ xs) = by (p x) (q x) (filter (λ (z : Seen). p z || q z) xs) (filter p xs) (filter q xs) (least-either p q xs)
  where
    by : (a b : Bool) (both one other : List Seen) → least (delays_of both) ≡ lesser (least (delays_of one)) (least (delays_of other))
        → least (delays_of (cond (a || b) (x ∷ both) both)) ≡ lesser (least (delays_of (cond a (x ∷ one) one))) (least (delays_of (cond b (x ∷ other) other)))
    by true true both one other e = ap (lesser (Some x.delay)) e ∙ lesser-both x.delay _ _
    by true false both one other e = ap (lesser (Some x.delay)) e ∙ lesser-first x.delay _ _
    by false true both one other e = ap (lesser (Some x.delay)) e ∙ lesser-second x.delay _ _
    by false false both one other e = e

-- ---- a report's spell

pub record KeepsFloor (all : List Seen) (k : Delays) : Type 0 where
  pub front : List Seen
  pub newest : Seen
  pub split : all ≡ front ++ newest ∷ []
  pub spell : k.spell ≡ spell_of newest.now
  pub within : All (λ (z : Seen). spell_of z.now ≤ k.spell) all
  pub least_of : Some k.least ≡ least (delays_of (of_spell k.spell all))
  pub least_before : k.earlier ≡ least (delays_of (before_spell k.spell all))

abbrev pub HasFloor : Option Delays → Option Drain → List Seen → Type 0
HasFloor None drain all = all ≡ []
HasFloor (Some k) drain all = AreInOrder all → KeepsFloor all k

order-before : (all : List Seen) (x : Seen) → AreInOrder (all ++ x ∷ []) → AreInOrder all
order-before all x order front rest one other e =
    order front (rest ++ x ∷ []) one other (ap (λ (xs : List Seen). xs ++ x ∷ []) e ∙ append_assoc front (one ∷ other ∷ rest) (x ∷ []))

order-last : (all front : List Seen) (newest x : Seen) → all ≡ front ++ newest ∷ [] → AreInOrder (all ++ x ∷ []) → newest.now ≤ x.now
order-last all front newest x e order = order front [] newest x (ap (λ (xs : List Seen). xs ++ x ∷ []) e ∙ append_assoc front (newest ∷ []) (x ∷ []))

of-push : (xs : List Seen) (x : Seen) → least (delays_of (of_spell (spell_of x.now) (xs ++ x ∷ []))) ≡ lesser (least (delays_of (of_spell (spell_of x.now) xs))) (Some x.delay)
of-push xs x =
    let spell : ℕ = spell_of x.now in
    let p : Seen → Bool = λ z. spell_of z.now == spell in
    let same : (spell == spell) ≡ true = grind arith in
    let one : filter p (x ∷ []) ≡ x ∷ [] = ap (λ (b : Bool). cond b (x ∷ []) []) same in
    ap (λ (ys : List Seen). least (delays_of ys)) (filter-append p xs (x ∷ []) ∙ ap (λ (ys : List Seen). filter p xs ++ ys) one) ∙ least-push (filter p xs) x

before-push : (xs : List Seen) (x : Seen) → before_spell (spell_of x.now) (xs ++ x ∷ []) ≡ before_spell (spell_of x.now) xs
before-push xs x =
    let spell : ℕ = spell_of x.now in
    let p : Seen → Bool = λ z. spell_of z.now + 1 == spell in
    let other : (spell + 1 == spell) ≡ false = grind arith in
    let none : filter p (x ∷ []) ≡ [] = ap (λ (b : Bool). cond b (x ∷ []) []) other in
    filter-append p xs (x ∷ []) ∙ ap (λ (ys : List Seen). filter p xs ++ ys) none ∙ append-nil (filter p xs)

least-next : (k : Delays) (all : List Seen) (x : Seen) (b : Bool) → KeepsFloor all k → k.spell ≤ spell_of x.now → (spell_of x.now == k.spell) ≡ b
    → Some (if b then int_min k.least x.delay else x.delay) ≡ least (delays_of (of_spell (spell_of x.now) (all ++ x ∷ [])))
least-next k all x true kept later e =
    let same : k.spell ≡ spell_of x.now = grind arith in
    ap (λ (o : Option ℤ). lesser o (Some x.delay)) (kept.least_of ∙ ap (λ (n : ℕ). least (delays_of (of_spell n all))) same) ∙ sym (of-push all x)
least-next k all x false kept later e =
    let before : k.spell < spell_of x.now = grind arith in
    let none : of_spell (spell_of x.now) all ≡ [] = filter-none (λ (z : Seen). spell_of z.now == spell_of x.now) all (λ i d l. differs _ _ _ (kept.within i d l) before) in
    sym (of-push all x ∙ ap (λ (ys : List Seen). lesser (least (delays_of ys)) (Some x.delay)) none)
  where
    differs : (n m t : ℕ) → n ≤ m → m < t → (n == t) ≡ false
    differs n m t h l = grind arith

earlier-next : (k : Delays) (all : List Seen) (x : Seen) (b c : Bool) → KeepsFloor all k → k.spell ≤ spell_of x.now → (spell_of x.now == k.spell) ≡ b → (spell_of x.now == k.spell + 1) ≡ c
    → (if b then k.earlier else (if c then Some k.least else None)) ≡ least (delays_of (before_spell (spell_of x.now) (all ++ x ∷ [])))
earlier-next k all x true c kept later e f =
    let same : k.spell ≡ spell_of x.now = grind arith in
    kept.least_before ∙ ap (λ (n : ℕ). least (delays_of (before_spell n all))) same ∙ sym (ap (λ (ys : List Seen). least (delays_of ys)) (before-push all x))
earlier-next k all x false true kept later e f =
    let next : spell_of x.now ≡ k.spell + 1 = grind arith in
    let same : before_spell (spell_of x.now) all ≡ of_spell k.spell all = filter_agree (λ (z : Seen). spell_of z.now + 1 == spell_of x.now) (λ (z : Seen). spell_of z.now == k.spell) (λ z. agrees (spell_of z.now) k.spell (spell_of x.now) next) all in
    kept.least_of ∙ sym (ap (λ (ys : List Seen). least (delays_of ys)) (before-push all x ∙ same))
  where
    agrees : (n m t : ℕ) → t ≡ m + 1 → (n + 1 == t) ≡ (n == m)
    agrees n m t h = grind arith
earlier-next k all x false false kept later e f =
    let before : k.spell + 1 < spell_of x.now = grind arith in
    let none : before_spell (spell_of x.now) all ≡ [] = filter-none (λ (z : Seen). spell_of z.now + 1 == spell_of x.now) all (λ i d l. differs _ _ _ (kept.within i d l) before) in
    sym (ap (λ (ys : List Seen). least (delays_of ys)) (before-push all x ∙ none))
  where
    differs : (n m t : ℕ) → n ≤ m → m + 1 < t → (n + 1 == t) ≡ false
    differs n m t h l = grind arith

spell-later : (n m : ℕ) → n ≤ m → spell_of n ≤ spell_of m
spell-later n m h = omega arith

floor-push : (known : Option Delays) (drain after_it : Option Drain) (all : List Seen) (x : Seen) (base : ℤ) → HasFloor known drain all
    → HasFloor (Some (record (delays_after known x.delay x.now) { base = base })) after_it (all ++ x ∷ [])
floor-push None drain after_it all x base none order =
    let P : List Seen → Type 0 = λ xs. KeepsFloor (xs ++ x ∷ []) (record (delays_after None x.delay x.now) { base = base }) in
    subst P (sym none) (record {
      front = [];
      newest = x;
      split = refl;
      spell = refl;
      within = All-push (λ (z : Seen). spell_of z.now ≤ spell_of x.now) [] x (All-nil (λ (z : Seen). spell_of z.now ≤ spell_of x.now)) (omega arith);
      least_of = sym (of-push [] x);
      least_before = sym (ap (λ (ys : List Seen). least (delays_of ys)) (before-push [] x));
    })
floor-push (Some k) drain after_it all x base has order =
    let kept : KeepsFloor all k = has (order-before all x order) in
    let later : k.spell ≤ spell_of x.now = omega (arith, kept.spell, spell-later kept.newest.now x.now (order-last all kept.front kept.newest x kept.split order)) in
    record {
      front = all;
      newest = x;
      split = refl;
      spell = refl;
      within = All-push (λ (z : Seen). spell_of z.now ≤ spell_of x.now) all x (λ i d l. le_trans (kept.within i d l) later) (omega arith);
      least_of = least-next k all x (spell_of x.now == k.spell) kept later refl;
      least_before = earlier-next k all x (spell_of x.now == k.spell) (spell_of x.now == k.spell + 1) kept later refl refl;
    }

floor-turn : (known next : Option Delays) (drain after_it : Option Drain) (all : List Seen) (x : Seen) (y : Shown) → HasFloor known drain all → IsSeen x y known
    → Turns drain y next after_it x.cut → HasFloor next after_it (all ++ x ∷ [])
floor-turn known next drain after_it all x y has sees turn =
    let n : (base : ℤ) × (next ≡ Some (record (delays_after known x.delay x.now) { base = base })) = next_is known next drain after_it x y sees turn in
    subst (λ (o : Option Delays). HasFloor o after_it (all ++ x ∷ [])) (sym n.1) (floor-push known drain after_it all x n.0 has)

floor-start : (known : Option Delays) (drain : Option Drain) (all : List Seen) → HasFloor known drain all → HasFloor known None all
floor-start None drain all has = has
floor-start (Some k) drain all has = has

pub floor-lasts : Lasts HasFloor
floor-lasts = record { first = refl; turn = λ known next drain after_it all x y has sees turn ended. floor-turn known next drain after_it all x y has sees turn; start = floor-start }

lesser_of-is : (one : ℤ) (o : Option ℤ) → Some (lesser_of one o) ≡ lesser (Some one) o
lesser_of-is one None = refl
lesser_of-is one (Some other) = refl

-- two ways to end one list end it with the same
same-end : (xs ys : List Seen) (x y : Seen) → xs ++ x ∷ [] ≡ ys ++ y ∷ [] → x ≡ y
same-end xs ys x y e =
    let pick : Seen → Seen → Seen = λ a b. b in
    sym (fold-append pick x xs (x ∷ [])) ∙ ap (fold pick x) e ∙ fold-append pick x ys (y ∷ [])

pub floor-is : (all earlier : List Seen) (last : Seen) (k : Delays) → KeepsFloor all k → all ≡ earlier ++ last ∷ [] → Some (floor_of k) ≡ least (delays_of (in_spells (spell_of last.now) all))
floor-is all earlier last k kept e =
    let same : kept.newest ≡ last = same-end kept.front earlier kept.newest last (sym kept.split ∙ e) in
    let spell : k.spell ≡ spell_of last.now = kept.spell ∙ ap (λ (z : Seen). spell_of z.now) same in
    let both : Some (floor_of k) ≡ least (delays_of (in_spells k.spell all)) =
    lesser_of-is k.least k.earlier ∙ ap (λ (o : Option ℤ). lesser o k.earlier) kept.least_of ∙ ap (lesser (least (delays_of (of_spell k.spell all)))) kept.least_before
    ∙ sym (least-either (λ (z : Seen). spell_of z.now == k.spell) (λ (z : Seen). spell_of z.now + 1 == k.spell) all) in
    both ∙ ap (λ (n : ℕ). least (delays_of (in_spells n all))) spell
