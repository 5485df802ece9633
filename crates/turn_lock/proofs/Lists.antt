-- The seats of a list: those that are made at first, and those that one view takes in at the end.
use Rattle.std.proofs.Common.{◌≡◌, ℕ, zero, suc, ◌+◌, ◌-◌, ◌<◌, ◌≤◌, List, [], ◌∷◌, ◌++◌, sym, refl, ap, subst, ◌∙◌, arith, Some}
use Rattle.std.specs.List.{All}
use Rattle.std.proofs.lemmas.List.Elements.{All-nil, All-cons, All-pop, All-weaker, All-contains}
use Rattle.std.proofs.lemmas.List.FromFn.{map-range_with_len_more}
use mathlib.Core.Option.{some}
use lib.ListN.{get_elem?}
use Rattle.atomic_table.specs.Table.{Me}
use Rattle.atomic_table.proofs.Lists.{at_longer}
use Rattle.turn_lock.specs.declared.entry.Entry.{Entry}
use Rattle.turn_lock.specs.declared.view.View.{View}
use Rattle.turn_lock.specs.Rule.{by, BeginsWith}
use Rattle.turn_lock.specs.Plays.{Idle, IsNumbered, giver, newcomer, grown, reads, joined, Absorbs, Ends}
use Rattle.turn_lock.specs.Seats.{TableId, SeatIs, HasEvery, own_of, seat_is, new_seat, new_seats}
use Rattle.turn_lock.proofs.Sums.{begins_all, begins_through}

pub all_of_last : {X : Type 0} (P : X → Type 0) (xs ys : List X) (x : X) → xs ≡ ys ++ x ∷ [] → All P xs → All P ys × P x
all_of_last P xs ys x e all = All-pop P xs ys (Some x) e all

at_second : {A : Type 0} (xs ys : List A) (j : ℕ) (a : A) → get_elem? ys j ≡ some a → (i : ℕ) × (get_elem? (xs ++ ys) i ≡ some a)
at_second [] ys j a e = (j, e)
at_second (x ∷ xs) ys j a e = let r = at_second xs ys j a e in (suc r.0, r.1)

module _ {C R : Type 0} where
  -- of a seat that the view v took in
  abbrev pub KeepsSeat : View C R → SeatIs C R → Type 0
  KeepsSeat v s = BeginsWith v.seen s.seen × ((j : ℕ) × (get_elem? v.kept j ≡ some (s.number, s.mine)))

  kept_first : (number : ℕ) (v : View C R) → IsNumbered number v → get_elem? v.kept 0 ≡ some (number, own_of v.kept)
  kept_first number v n = subst (λ l. get_elem? l 0 ≡ some (number, own_of l)) (sym n.2) refl

  pub keeps_first : (of : TableId) (number : ℕ) (v : View C R) → IsNumbered number v → All (KeepsSeat v) (seat_is of number v ∷ [])
  keeps_first of number v n = All-cons (KeepsSeat v) (seat_is of number v) [] (begins_all v.seen, (0, kept_first number v n)) (All-nil (KeepsSeat v))

  pub keeps_more : {S : Type 0} (legal : List (Entry C R) → Type 0) (done : List (SeatIs C R)) (m o n : Me S (View C R)) (of : TableId) (number : ℕ) → Absorbs legal m o n → IsNumbered number o.0
      → All (KeepsSeat m.0) done → All (KeepsSeat n.0) (seat_is of number o.0 ∷ done)
  keeps_more {S} legal done m o n of number a numbered all =
      subst (λ (l : Me S (View C R)). All (KeepsSeat l.0) (seat_is of number o.0 ∷ done)) (sym a.1)
      (All-cons (KeepsSeat (reads a.0 (joined m.0 o.0))) (seat_is of number o.0) done
      (a.3, at_second m.0.kept o.0.kept 0 (number, own_of o.0.kept) (kept_first number o.0 numbered))
      (All-weaker (KeepsSeat m.0) (KeepsSeat (reads a.0 (joined m.0 o.0))) (λ s k. (begins_through a.0 m.0.seen s.seen a.2 k.0, (k.1.0, at_longer m.0.kept o.0.kept k.1.0 (s.number, s.mine) k.1.1))) done all))

  -- no seat is left
  pub all_done : (P : SeatIs C R → Type 0) (seats left done : List (SeatIs C R)) → seats ≡ left ++ done → left ≡ [] → All P done → All P seats
  all_done P seats left done e none_left all = subst (All P) (sym (e ∙ ap (λ l. l ++ done) none_left)) all

  -- where every number is that of a seat in the list, each is kept
  pub every_kept : (all : ℕ) (seats : List (SeatIs C R)) (v : View C R) → HasEvery all seats → All (KeepsSeat v) seats → (n : ℕ) → n < all → (j : ℕ) × (es : List (Entry C R)) × (get_elem? v.kept j ≡ some (n, es))
  every_kept all seats v every keeps n below =
      let w = every n below in
      let k = All-contains (KeepsSeat v) seats w.0 keeps w.1 in
      (k.1.0, w.0.mine, k.1.1 ∙ ap (λ m. some (m, w.0.mine)) w.2)

  pub all_seen : (all : ℕ) (log : List (Entry C R)) (seats : List (SeatIs C R)) (v : View C R) → Ends all log v → All (KeepsSeat v) seats → All (λ s. BeginsWith log s.seen) seats
  all_seen all log seats v e keeps = All-weaker (KeepsSeat v) (λ s. BeginsWith log s.seen) (λ s k. begins_through log v.seen s.seen e.seen k.0) seats keeps

  pub all_mine : (all : ℕ) (log : List (Entry C R)) (seats : List (SeatIs C R)) (v : View C R) → Ends all log v → All (KeepsSeat v) seats → All (λ s. by s.number log ≡ s.mine) seats
  all_mine all log seats v e keeps = All-weaker (KeepsSeat v) (λ s. by s.number log ≡ s.mine) (λ s k. e.kept k.1.0 s.number s.mine k.1.1) seats keeps

  pub seats_more : (of : TableId) (number : ℕ) → 1 ≤ number → new_seats {C = C} {R = R} of 1 (number + 1 - 1) ≡ new_seats of 1 (number - 1) ++ new_seat of number ∷ []
  seats_more of number low = let e : number + 1 - 1 ≡ (number - 1) + 1 = omega arith in ap (new_seats of 1) e ∙ map-range_with_len_more (new_seat of) 1 (number - 1) number (omega arith)

  -- a seat more
  pub one_more : (of : TableId) (number : ℕ) (old new : List (SeatIs C R)) (s : SeatIs C R) → 1 ≤ number → new ≡ old ++ s ∷ [] → old ≡ new_seats of 1 (number - 1) → s ≡ new_seat of number → new ≡ new_seats of 1 (number + 1 - 1)
  one_more of number old new s low p q r = p ∙ (ap (λ l. l ++ s ∷ []) q ∙ (ap (λ d. new_seats of 1 (number - 1) ++ d ∷ []) r ∙ sym (seats_more of number low)))

  -- the first seat, put in front
  pub seats_all : (of : TableId) (seats : ℕ) → 1 ≤ seats → new_seat of 0 ∷ new_seats {C = C} {R = R} of 1 (seats - 1) ≡ new_seats of 0 seats
  seats_all of zero low = absurd (omega arith)
  seats_all of (suc n) low = let e : suc n - 1 ≡ n = omega arith in ap (λ k. new_seat of 0 ∷ new_seats of 1 k) e

-- the seat that was made last, and the first one
pub is_new : {S C R : Type 0} (of made : TableId) (number : ℕ) (m f : Me S (View C R)) → made ≡ of → m ≡ (newcomer f.0, []) → f ≡ (giver number, []) → seat_is made number m.0 ≡ new_seat of number
is_new {S} {C} {R} of made number m f p q r =
    ap (λ o. seat_is o number m.0) p ∙ (ap (λ (l : Me S (View C R)). seat_is of number l.0) q ∙ ap (λ (l : Me S (View C R)). seat_is of number (newcomer l.0)) r)

pub is_first : {S C R : Type 0} (of made : TableId) (given : ℕ) (f : Me S (View C R)) → made ≡ of → f ≡ (giver given, []) → seat_is made 0 f.0 ≡ new_seat of 0
is_first {S} {C} {R} of made given f p q = ap (λ o. seat_is o 0 f.0) p ∙ ap (λ (l : Me S (View C R)). seat_is of 0 l.0) q

pub first_idle : {S C R : Type 0} (given : ℕ) (f : Me S (View C R)) → f ≡ (giver given, []) → Idle f × IsNumbered 0 f.0
first_idle {S} {C} {R} given f q = subst (λ (l : Me S (View C R)). Idle l × IsNumbered 0 l.0) (sym q) ((refl, refl, refl), ([], [], refl))

-- after one view took another in, it is between calls as before
pub still_idle : {S C R : Type 0} (legal : List (Entry C R) → Type 0) (m o n : Me S (View C R)) → Absorbs legal m o n → Idle m → Idle n
still_idle {S} {C} {R} legal m o n a i = subst (λ (l : Me S (View C R)). Idle l) (sym a.1) (i.0, i.1, refl)

pub is_giver : {S C R : Type 0} (given : ℕ) (f n : Me S (View C R)) → n ≡ (grown f.0, f.1) → f ≡ (giver given, []) → n ≡ (giver (given + 1), [])
is_giver {S} {C} {R} given f n p q = p ∙ ap (λ (l : Me S (View C R)). (grown l.0, l.1)) q

pub all_made : {C R : Type 0} (of : TableId) (number seats : ℕ) (old new : List (SeatIs C R)) (s : SeatIs C R) → new ≡ s ∷ old → old ≡ new_seats of 1 (number - 1) → s ≡ new_seat of 0 → number ≡ seats → 1 ≤ seats → new ≡ new_seats of 0 seats
all_made {C} {R} of number seats old new s p q r e low = p ∙ (ap (λ l. s ∷ l) q ∙ (ap (λ d. d ∷ new_seats of 1 (number - 1)) r ∙ (ap (λ n. new_seat of 0 ∷ new_seats of 1 (n - 1)) e ∙ seats_all of seats low)))
