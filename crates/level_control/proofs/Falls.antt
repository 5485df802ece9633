-- A drain is that of the list: its low, its deepest queue and its falls.
use Rattle.std.proofs.Common.{ℕ, ℤ, ◌≡◌, ◌≤◌, ◌+◌, max, Bool, true, false, cond, ◌&&◌, nat_lt, nat_le, is_some, is_none, if◌then◌else◌, Option, Some, None, List, [], ◌∷◌, ◌++◌, filter, append_assoc, append-nil, refl, sym, ap, subst, ◌∙◌, arith}
use Rattle.std.specs.Int.{int_min, int_max}
use Rattle.std.proofs.lemmas.Option.{same_Some}
use Rattle.std.proofs.lemmas.List.Sums.{fold-append}
use Rattle.std.proofs.lemmas.List.Elements.{All-nil, All-push, filter-append}
use Rattle.level_control.specs.declared.state.Delays.{Delays}
use Rattle.level_control.specs.declared.state.Drain.{Drain}
use Rattle.level_control.specs.declared.state.Shown.{Shown}
use Rattle.level_control.specs.declared.drains.TheConstants.{FALL}
use Rattle.level_control.specs.Delays.{above}
use Rattle.level_control.specs.Drains.{begun, followed, with_low, deepened, fallen}
use Rattle.level_control.specs.Given.{Seen, AreInOrder}
use Rattle.level_control.specs.AsLists.{lesser, least, delays_of, IsNoTurn}
use Rattle.level_control.specs.DrainLists.{early, late, falls, last_delay, last_moment, deepest_of, highest_of, first_mark, falls_of, IsDrainOf, Drains, DrainsAreThoseOfTheList}
use Rattle.level_control.proofs.Turns.{Turns, cuts, grows, goes_on, ends, IsSeen, Lasts, all_lasts}
use Rattle.level_control.proofs.Bases.{least-push, last-after}

-- ---- one more report

falls-push : (mark : ℤ) (xs : List Seen) (x : Seen) → falls mark (xs ++ x ∷ []) ≡ falls mark xs ++ (if nat_le FALL (above (last_delay mark (falls mark xs)) x.delay) then x ∷ [] else [])
falls-push mark [] x = refl
falls-push mark (y ∷ xs) x = by (nat_le FALL (above mark y.delay)) (falls-push y.delay xs x) (falls-push mark xs x)
  where
    by : (b : Bool) → falls y.delay (xs ++ x ∷ []) ≡ falls y.delay xs ++ (if nat_le FALL (above (last_delay y.delay (falls y.delay xs)) x.delay) then x ∷ [] else [])
        → falls mark (xs ++ x ∷ []) ≡ falls mark xs ++ (if nat_le FALL (above (last_delay mark (falls mark xs)) x.delay) then x ∷ [] else [])
        → (if b then y ∷ falls y.delay (xs ++ x ∷ []) else falls mark (xs ++ x ∷ []))
        ≡ (if b then y ∷ falls y.delay xs else falls mark xs) ++ (if nat_le FALL (above (last_delay mark (if b then y ∷ falls y.delay xs else falls mark xs)) x.delay) then x ∷ [] else [])
    by true e g = ap (λ (zs : List Seen). y ∷ zs) e
    by false e g = g

pick-one : (p : Seen → Bool) (xs : List Seen) (x : Seen) → p x ≡ true → filter p (xs ++ x ∷ []) ≡ filter p xs ++ x ∷ []
pick-one p xs x e = filter-append p xs (x ∷ []) ∙ ap (λ (b : Bool). filter p xs ++ cond b (x ∷ []) []) e

pick-none : (p : Seen → Bool) (xs : List Seen) (x : Seen) → p x ≡ false → filter p (xs ++ x ∷ []) ≡ filter p xs
pick-none p xs x e = filter-append p xs (x ∷ []) ∙ ap (λ (b : Bool). filter p xs ++ cond b (x ∷ []) []) e ∙ append-nil (filter p xs)

-- before the end of the round trip, where no later report was there yet
push-early : (cut : Seen) (more : List Seen) (old : Drain) (x : Seen) (y : Shown) → IsDrainOf cut more old → y.now ≡ x.now → y.delays.last ≡ x.delay → y.above ≡ x.height
    → nat_lt x.now (cut.now + cut.rtt) ≡ true → late (cut.now + cut.rtt) more ≡ [] → IsDrainOf cut (more ++ x ∷ []) (deepened (with_low old y.delays.last) y)
push-early cut more old x y is now last height test none =
    let until : ℕ = cut.now + cut.rtt in
    let not_late : nat_le until x.now ≡ false = grind arith in
    let earlier : early until (more ++ x ∷ []) ≡ early until more ++ x ∷ [] = pick-one (λ (z : Seen). nat_lt z.now until) more x test in
    let later : late until (more ++ x ∷ []) ≡ [] = pick-none (λ (z : Seen). nat_le until z.now) more x not_late ∙ none in
    let first : first_mark cut (more ++ x ∷ []) ≡ int_max (first_mark cut more) x.delay =
    ap (highest_of cut.delay) earlier ∙ fold-append (λ (z : ℤ) (w : Seen). int_max z w.delay) cut.delay (early until more) (x ∷ []) in
    let mark : old.mark ≡ first_mark cut more = is.mark ∙ ap (λ (ys : List Seen). last_delay (first_mark cut more) (falls (first_mark cut more) ys)) none in
    let fell : old.fell ≡ until = is.fell ∙ ap (λ (ys : List Seen). last_moment until (falls (first_mark cut more) ys)) none in
    record {
      until = is.until;
      low = ap (λ (z : ℤ). Some (int_min old.low z)) last ∙ ap (λ (o : Option ℤ). lesser o (Some x.delay)) is.low ∙ sym (least-push (cut ∷ more) x);
      deepest =
          ap (max old.deepest) height ∙ ap (λ (n : ℕ). max n x.height) is.deepest
          ∙ sym (ap (deepest_of cut.height) earlier ∙ fold-append (λ (n : ℕ) (w : Seen). max n w.height) cut.height (early until more) (x ∷ []));
      mark =
          ap (int_max old.mark) last ∙ ap (λ (z : ℤ). int_max z x.delay) mark
          ∙ sym (ap (λ (ys : List Seen). last_delay (first_mark cut (more ++ x ∷ [])) (falls (first_mark cut (more ++ x ∷ [])) ys)) later ∙ first);
      fell = fell ∙ sym (ap (λ (ys : List Seen). last_moment until (falls (first_mark cut (more ++ x ∷ [])) ys)) later);
    }

-- after that: a fall, or none
push-late : (cut : Seen) (more : List Seen) (old : Drain) (x : Seen) (y : Shown) (b : Bool) → IsDrainOf cut more old → y.now ≡ x.now → y.delays.last ≡ x.delay
    → nat_lt x.now (cut.now + cut.rtt) ≡ false → nat_le FALL (above old.mark y.delays.last) ≡ b
    → IsDrainOf cut (more ++ x ∷ []) (if b then fallen (with_low old y.delays.last) y else with_low old y.delays.last)
push-late cut more old x y b is now last test fall = by b fall
  where
    is_late : nat_le (cut.now + cut.rtt) x.now ≡ true
    is_late = grind arith

    earlier : early (cut.now + cut.rtt) (more ++ x ∷ []) ≡ early (cut.now + cut.rtt) more
    earlier = pick-none (λ (z : Seen). nat_lt z.now (cut.now + cut.rtt)) more x test

    later : late (cut.now + cut.rtt) (more ++ x ∷ []) ≡ late (cut.now + cut.rtt) more ++ x ∷ []
    later = pick-one (λ (z : Seen). nat_le (cut.now + cut.rtt) z.now) more x is_late

    first : first_mark cut (more ++ x ∷ []) ≡ first_mark cut more
    first = ap (highest_of cut.delay) earlier

    low : Some (int_min old.low y.delays.last) ≡ least (delays_of (cut ∷ (more ++ x ∷ [])))
    low = ap (λ (z : ℤ). Some (int_min old.low z)) last ∙ ap (λ (o : Option ℤ). lesser o (Some x.delay)) is.low ∙ sym (least-push (cut ∷ more) x)

    fall_is : nat_le FALL (above old.mark y.delays.last) ≡ nat_le FALL (above (last_delay (first_mark cut more) (falls_of cut more)) x.delay)
    fall_is = ap (λ (z : ℤ). nat_le FALL (above z y.delays.last)) is.mark ∙ ap (λ (z : ℤ). nat_le FALL (above (last_delay (first_mark cut more) (falls_of cut more)) z)) last

    all_falls : (c : Bool) → nat_le FALL (above old.mark y.delays.last) ≡ c → falls_of cut (more ++ x ∷ []) ≡ falls_of cut more ++ (if c then x ∷ [] else [])
    all_falls c e =
        ap (λ (m : ℤ). falls m (late (cut.now + cut.rtt) (more ++ x ∷ []))) first ∙ ap (falls (first_mark cut more)) later
        ∙ falls-push (first_mark cut more) (late (cut.now + cut.rtt) more) x ∙ ap (λ (t : Bool). falls_of cut more ++ (if t then x ∷ [] else [])) (sym fall_is ∙ e)

    by : (c : Bool) → nat_le FALL (above old.mark y.delays.last) ≡ c → IsDrainOf cut (more ++ x ∷ []) (if c then fallen (with_low old y.delays.last) y else with_low old y.delays.last)
    by true e = record {
      until = is.until;
      low = low;
      deepest = is.deepest ∙ sym (ap (deepest_of cut.height) earlier);
      mark =
          last
          ∙ sym (ap (λ (m : ℤ). last_delay m (falls_of cut (more ++ x ∷ []))) first ∙ ap (last_delay (first_mark cut more)) (all_falls true e)
          ∙ fold-append (λ (z : ℤ) (w : Seen). w.delay) (first_mark cut more) (falls_of cut more) (x ∷ []));
      fell = now ∙ sym (ap (last_moment (cut.now + cut.rtt)) (all_falls true e) ∙ fold-append (λ (n : ℕ) (w : Seen). w.now) (cut.now + cut.rtt) (falls_of cut more) (x ∷ []));
    }
    by false e = record {
      until = is.until;
      low = low;
      deepest = is.deepest ∙ sym (ap (deepest_of cut.height) earlier);
      mark =
          is.mark
          ∙ sym (ap (λ (m : ℤ). last_delay m (falls_of cut (more ++ x ∷ []))) first ∙ ap (last_delay (first_mark cut more)) (all_falls false e ∙ append-nil (falls_of cut more)));
      fell = is.fell ∙ sym (ap (last_moment (cut.now + cut.rtt)) (all_falls false e ∙ append-nil (falls_of cut more)));
    }

pub drain-push : (cut : Seen) (more : List Seen) (old : Drain) (x : Seen) (y : Shown) → IsDrainOf cut more old → y.now ≡ x.now → y.delays.last ≡ x.delay → y.above ≡ x.height
    → (nat_lt x.now (cut.now + cut.rtt) ≡ true → late (cut.now + cut.rtt) more ≡ []) → IsDrainOf cut (more ++ x ∷ []) (followed old y)
drain-push cut more old x y is now last height none = by (nat_lt x.now (cut.now + cut.rtt)) refl
  where
    rest : Drain
    rest = if nat_le FALL (above old.mark y.delays.last) then fallen (with_low old y.delays.last) y else with_low old y.delays.last

    test_is : nat_lt y.now old.until ≡ nat_lt x.now (cut.now + cut.rtt)
    test_is = ap (λ (n : ℕ). nat_lt n old.until) now ∙ ap (nat_lt x.now) is.until

    by : (a : Bool) → nat_lt x.now (cut.now + cut.rtt) ≡ a → IsDrainOf cut (more ++ x ∷ []) (followed old y)
    by true e =
        let shape : followed old y ≡ deepened (with_low old y.delays.last) y = ap (λ (t : Bool). if t then deepened (with_low old y.delays.last) y else rest) (test_is ∙ e) in
        subst (IsDrainOf cut (more ++ x ∷ [])) (sym shape) (push-early cut more old x y is now last height e (none e))
    by false e =
        let shape : followed old y ≡ rest = ap (λ (t : Bool). if t then deepened (with_low old y.delays.last) y else rest) (test_is ∙ e) in
        subst (IsDrainOf cut (more ++ x ∷ [])) (sym shape) (push-late cut more old x y (nat_le FALL (above old.mark y.delays.last)) is now last e refl)

-- ---- the list

pub record KeepsDrain (all : List Seen) (d : Drain) : Type 0 where
  pub drains : Drains all d
  pub early_first : (z : Seen) → AreInOrder (all ++ z ∷ []) → nat_lt z.now (drains.cut.now + drains.cut.rtt) ≡ true → late (drains.cut.now + drains.cut.rtt) drains.more ≡ []

abbrev pub HasDrains : Option Delays → Option Drain → List Seen → Type 0
HasDrains known drain all = AreInOrder all → (d : Drain) → drain ≡ Some d → KeepsDrain all d

order-before : (all : List Seen) (x : Seen) → AreInOrder (all ++ x ∷ []) → AreInOrder all
order-before all x order front rest one other e =
    order front (rest ++ x ∷ []) one other (ap (λ (xs : List Seen). xs ++ x ∷ []) e ∙ append_assoc front (one ∷ other ∷ rest) (x ∷ []))

order-last : (all : List Seen) (x z : Seen) → AreInOrder ((all ++ x ∷ []) ++ z ∷ []) → x.now ≤ z.now
order-last all x z order = order all [] x z (append_assoc all (x ∷ []) (z ∷ []))

no_some : (e : Drain) → None ≡ Some e → ⊥
no_some e h = cc

begins : (all : List Seen) (x : Seen) (y : Shown) (before : ℕ) → y.now ≡ x.now → y.rtt ≡ x.rtt → y.delays.last ≡ x.delay → y.above ≡ x.height → x.cut ≡ true
    → KeepsDrain (all ++ x ∷ []) (begun y before)
begins all x y before now rtt last height is_cut = record {
  drains = record {
    earlier = all;
    cut = x;
    more = [];
    split = refl;
    is_cut = is_cut;
    quiet = All-nil IsNoTurn;
    drain = record { until = omega (arith, now, rtt); low = ap Some last; deepest = height; mark = last; fell = omega (arith, now, rtt) };
  };
  early_first = λ z order e. refl;
}

goes-on : (all : List Seen) (x : Seen) (y : Shown) (old : Drain) → AreInOrder (all ++ x ∷ []) → KeepsDrain all old → y.now ≡ x.now → y.delays.last ≡ x.delay → y.above ≡ x.height
    → x.cut ≡ false → x.ended ≡ false → KeepsDrain (all ++ x ∷ []) (followed old y)
goes-on all x y old order kept now last height no_cut no_end =
    let d : Drains all old = kept.drains in
    let until : ℕ = d.cut.now + d.cut.rtt in
    record {
      drains = record {
        earlier = d.earlier;
        cut = d.cut;
        more = d.more ++ x ∷ [];
        split = ap (λ (xs : List Seen). xs ++ x ∷ []) d.split ∙ append_assoc d.earlier (d.cut ∷ d.more) (x ∷ []);
        is_cut = d.is_cut;
        quiet = All-push IsNoTurn d.more x d.quiet (record { cut = no_cut; ended = no_end });
        drain = drain-push d.cut d.more old x y d.drain now last height (kept.early_first x order);
      };
      early_first = λ z later e.
          let le : x.now ≤ z.now = order-last all x z later in
          let test : nat_lt x.now until ≡ true = grind arith in
          let not_late : nat_le until x.now ≡ false = grind arith in
          pick-none (λ (w : Seen). nat_le until w.now) d.more x not_late ∙ kept.early_first x order test;
    }

drains-turn : (known next : Option Delays) (drain after_it : Option Drain) (all : List Seen) (x : Seen) (y : Shown) → HasDrains known drain all → IsSeen x y known
    → Turns drain y next after_it x.cut → x.ended ≡ (is_some drain && is_none after_it) → HasDrains next after_it (all ++ x ∷ [])
drains-turn known next drain after_it all x y has sees turn ended order e is =
    let last : y.delays.last ≡ x.delay = ap (λ (k : Delays). k.last) sees.delays ∙ last-after known x.delay x.now in
    elim turn as (λ _. KeepsDrain (all ++ x ∷ []) e) [
      | cuts before late is_cut n d ↦ subst (KeepsDrain (all ++ x ∷ [])) (same_Some (begun y before) e (sym d ∙ is)) (begins all x y before sees.now sees.rtt last sees.height is_cut)
      | grows none is_cut n d ↦ absurd (no_some e (sym d ∙ is))
      | goes_on old rate more_falls was is_cut n d ↦
          let no_end : x.ended ≡ false = ended ∙ ap (λ (o : Option Drain). is_some o && is_none after_it) was ∙ ap (λ (o : Option Drain). is_some (Some old) && is_none o) d in
          subst (KeepsDrain (all ++ x ∷ [])) (same_Some (followed old y) e (sym d ∙ is)) (goes-on all x y old order (has (order-before all x order) old was) sees.now last sees.height is_cut no_end)
      | ends old rate no_fall was is_cut n d ↦ absurd (no_some e (sym d ∙ is))
    ]

pub drains-lasts : Lasts HasDrains
drains-lasts = record { first = λ order d is. absurd (no_some d is); turn = drains-turn; start = λ known drain all has order d is. absurd (no_some d is) }

pub drains-of-list : DrainsAreThoseOfTheList
drains-of-list start given d is order = (all_lasts HasDrains drains-lasts start given order d is).drains
