-- Between two cuts lies at least the round trip of the first.
use Rattle.std.proofs.Common.{ℕ, ◌≡◌, ◌≤◌, ◌+◌, Bool, true, false, nat_lt, nat_le, if◌then◌else◌, true≢false, Option, Some, None, List, [], ◌∷◌, ◌++◌, All, AllPairs, append_assoc, fold, le_trans, refl, sym, ap, subst, ◌∙◌, arith}
use Rattle.std.proofs.lemmas.Option.{same_Some}
use Rattle.std.proofs.lemmas.List.Elements.{All-nil, All-push}
use Rattle.std.proofs.lemmas.List.Quantifiers.{all_pairs_push}
use Rattle.level_control.specs.declared.state.Delays.{Delays}
use Rattle.level_control.specs.declared.state.Drain.{Drain}
use Rattle.level_control.specs.declared.state.Shown.{Shown}
use Rattle.level_control.specs.declared.state.State.{State}
use Rattle.level_control.specs.declared.drains.TheConstants.{FALL}
use Rattle.level_control.specs.Delays.{above}
use Rattle.level_control.specs.Drains.{begun, followed, with_low, deepened, fallen, has_settled}
use Rattle.level_control.specs.Given.{given_to, Seen, seen_from, after_all, AreInOrder}
use Rattle.level_control.specs.Promises.{AreApart, AllCutsOfTheListLieApart}
use Rattle.level_control.proofs.Turns.{Turns, cuts, grows, goes_on, ends, IsSeen, Turning, walk_turning, Lasts, all_lasts}

-- when the round trip of a cut is over
abbrev Over : ℕ → Seen → Type 0
Over moment one = one.cut ≡ true → one.now + one.rtt ≤ moment

-- of a drain it is over at its end, and else whenever a next report comes
abbrev AreOver : Option Drain → List Seen → Type 0
AreOver None all = (x : Seen) → AreInOrder (all ++ x ∷ []) → All (Over x.now) all
AreOver (Some d) all = All (Over d.until) all × (d.until ≤ d.fell)

record HasApart (drain : Option Drain) (all : List Seen) : Type 0 where
  apart : AllPairs AreApart all
  over : AreOver drain all

abbrev Apart : Option Delays → Option Drain → List Seen → Type 0
Apart known drain all = AreInOrder all → HasApart drain all

order-before : (all : List Seen) (x : Seen) → AreInOrder (all ++ x ∷ []) → AreInOrder all
order-before all x order front rest one other e =
    order front (rest ++ x ∷ []) one other (ap (λ (xs : List Seen). xs ++ x ∷ []) e ∙ append_assoc front (one ∷ other ∷ rest) (x ∷ []))

order-last : (all : List Seen) (x z : Seen) → AreInOrder ((all ++ x ∷ []) ++ z ∷ []) → x.now ≤ z.now
order-last all x z order = order all [] x z (append_assoc all (x ∷ []) (z ∷ []))

followed_fell : (d : Drain) (y : Shown) → d.until ≤ d.fell → ((followed d y).until ≡ d.until) × (d.until ≤ (followed d y).fell)
followed_fell d y h = by (nat_lt y.now d.until) (nat_le FALL (above d.mark y.delays.last)) refl
  where
    by : (a b : Bool) → nat_lt y.now d.until ≡ a
        → ((if a then deepened (with_low d y.delays.last) y else (if b then fallen (with_low d y.delays.last) y else with_low d y.delays.last)).until ≡ d.until)
        × (d.until ≤ (if a then deepened (with_low d y.delays.last) y else (if b then fallen (with_low d y.delays.last) y else with_low d y.delays.last)).fell)
    by true b e = (refl, h)
    by false true e = (refl, grind arith)
    by false false e = (refl, h)

no_some : (d : Drain) → None ≡ Some d → ⊥
no_some d h = cc

none-apart : AllPairs AreApart []
none-apart i j d lt within = absurd (omega arith)

over-more : (all : List Seen) (x : Seen) (now later : ℕ) → All (Over now) all → now ≤ later → All (Over later) all
over-more all x now later h le i d l c = le_trans (h i d l c) le

apart-push : (all : List Seen) (x : Seen) → AllPairs AreApart all → (x.cut ≡ true → All (Over x.now) all) → AllPairs AreApart (all ++ x ∷ [])
apart-push all x apart over = all_pairs_push AreApart all x apart (λ k d l c cut. over cut k d l c)

-- at a next report after a drain has ended, or without one
over-next : (all : List Seen) (x : Seen) → x.cut ≡ false → All (Over x.now) all → AreOver None (all ++ x ∷ [])
over-next all x no_cut h z order =
    let le : x.now ≤ z.now = order-last all x z order in
    All-push (Over z.now) all x (over-more all x x.now z.now h le) (λ c. absurd (true≢false (sym c ∙ no_cut)))

apart-turn : (known next : Option Delays) (drain after_it : Option Drain) (all : List Seen) (x : Seen) (y : Shown) → Apart known drain all → IsSeen x y known
    → Turns drain y next after_it x.cut → Apart next after_it (all ++ x ∷ [])
apart-turn known next drain after_it all x y has sees turn order =
    let before : HasApart drain all = has (order-before all x order) in
    let late-one : (rate : ℕ) (old : Drain) → has_settled (followed old y) rate y ≡ true → (followed old y).fell ≤ x.now = λ rate old e. subst (λ (n : ℕ). (followed old y).fell ≤ n) sees.now (grind arith) in
    elim turn as (λ _. HasApart after_it (all ++ x ∷ [])) [
      | cuts rate late is_cut n d ↦
          let over : All (Over x.now) all = over-at drain before.over late in
          let until : x.now + x.rtt ≤ y.now + y.rtt = omega (arith, sees.now, sees.rtt) in
          let P : Option Drain → Type 0 = λ o. AreOver o (all ++ x ∷ []) in
          record {
            apart = apart-push all x before.apart (λ _. over);
            over = subst P (sym d) (All-push (Over (y.now + y.rtt)) all x (over-more all x x.now (y.now + y.rtt) over (omega (arith, until))) (λ _. until), omega arith);
          }
      | grows none is_cut n d ↦
          let over : All (Over x.now) all = over-at drain before.over (λ z is. absurd (no_some z (sym none ∙ is))) in
          let P : Option Drain → Type 0 = λ o. AreOver o (all ++ x ∷ []) in
          record {
            apart = apart-push all x before.apart (λ c. over);
            over = subst P (sym d) (over-next all x is_cut over);
          }
      | goes_on old rate more_falls was is_cut n d ↦
          let P : Option Drain → Type 0 = λ o. AreOver o (all ++ x ∷ []) in
          let old_over : AreOver (Some old) all = subst (λ (o : Option Drain). AreOver o all) was before.over in
          let f : ((followed old y).until ≡ old.until) × (old.until ≤ (followed old y).fell) = followed_fell old y old_over.1 in
          let over : All (Over (followed old y).until) all = subst (λ (n : ℕ). All (Over n) all) (sym f.0) old_over.0 in
          let fell : (followed old y).until ≤ (followed old y).fell = subst (λ (n : ℕ). n ≤ (followed old y).fell) (sym f.0) f.1 in
          record {
            apart = apart-push all x before.apart (λ c. absurd (true≢false (sym c ∙ is_cut)));
            over = subst P (sym d) (All-push (Over (followed old y).until) all x over (λ c. absurd (true≢false (sym c ∙ is_cut))), fell);
          }
      | ends old rate no_fall was is_cut n d ↦
          let P : Option Drain → Type 0 = λ o. AreOver o (all ++ x ∷ []) in
          let old_over : AreOver (Some old) all = subst (λ (o : Option Drain). AreOver o all) was before.over in
          let f : ((followed old y).until ≡ old.until) × (old.until ≤ (followed old y).fell) = followed_fell old y old_over.1 in
          let over : All (Over x.now) all = over-more all x old.until x.now old_over.0 (le_trans f.1 (late-one rate old no_fall)) in
          record {
            apart = apart-push all x before.apart (λ c. over);
            over = subst P (sym d) (over-next all x is_cut over);
          }
    ]
  where
    over-at : (o : Option Drain) → AreOver o all → ((d : Drain) → o ≡ Some d → d.until ≤ y.now) → All (Over x.now) all
    over-at None h late = h x order
    over-at (Some d) h late = over-more all x d.until x.now h.0 (subst (λ (n : ℕ). d.until ≤ n) sees.now (late d refl))

-- ---- in any drain the last fall is no earlier than the end of the round trip

abbrev FellLate : Option Delays → Option Drain → List Seen → Type 0
FellLate known drain all = (d : Drain) → drain ≡ Some d → d.until ≤ d.fell

fell-turn : Turning FellLate
fell-turn known next drain after_it all x y has sees turn ended e is =
    elim turn as (λ _. e.until ≤ e.fell) [
      | cuts rate late is_cut n d ↦ subst (λ (z : Drain). z.until ≤ z.fell) (same_Some (begun y rate) e (sym d ∙ is)) (omega arith)
      | grows none is_cut n d ↦ absurd (no_some e (sym d ∙ is))
      | goes_on old rate more_falls was is_cut n d ↦
          let f : ((followed old y).until ≡ old.until) × (old.until ≤ (followed old y).fell) = followed_fell old y (has old was) in
          subst (λ (z : Drain). z.until ≤ z.fell) (same_Some (followed old y) e (sym d ∙ is)) (subst (λ (n : ℕ). n ≤ (followed old y).fell) (sym f.0) f.1)
      | ends old rate no_fall was is_cut n d ↦ absurd (no_some e (sym d ∙ is))
    ]

fell-lasts : Lasts FellLate
fell-lasts = record { first = λ d is. absurd (no_some d is); turn = fell-turn; start = λ known drain all has d is. absurd (no_some d is) }

begins-apart : (o : Option Drain) → ((d : Drain) → o ≡ Some d → d.until ≤ d.fell) → HasApart o []
begins-apart None fell = record { apart = none-apart; over = λ x order. All-nil (Over x.now) }
begins-apart (Some d) fell = record { apart = none-apart; over = (All-nil (Over d.until), fell d refl) }

pub cuts-apart : AllCutsOfTheListLieApart
cuts-apart start earlier given keeps order =
    let s : State = after_all start earlier in
    let first : Apart s.delays s.drain [] = λ _. begins-apart s.drain (all_lasts FellLate fell-lasts start earlier) in
    let has : HasApart (fold given_to s given).drain (seen_from s given) = walk_turning Apart turning s [] given keeps first order in
    has.apart
  where
    turning : Turning Apart
    turning known next drain after_it all x y has sees turn ended = apart-turn known next drain after_it all x y has sees turn
