-- Seats with the names of all are every seat of the turn.
use Rattle.std.proofs.Common.{◌≡◌, ℕ, zero, suc, ◌+◌, ◌<◌, ◌≤◌, List, [], ◌∷◌, map, length, set, get_or, sym, refl, ap, ◌∙◌, arith}
use Rattle.std.specs.List.{All, Contains, range_with_len}
use Rattle.std.proofs.lemmas.List.{length-map}
use Rattle.std.proofs.lemmas.List.Elements.{All-nil, All-cons}
use Rattle.std.proofs.lemmas.List.FromFn.{length-map-range_with_len}
use native.Mathlib.Decide.{ℕ_discrete}
use Rattle.turn_lock.specs.Seats.{TableId, SeatIs, HasEvery, new_seat, new_seats}
use Rattle.turn_lock.specs.Names.{name, names, all_names}

module _ {C R : Type 0} where
  named_at : (of : TableId) (a n : ℕ) (seats : List (SeatIs C R)) → names seats ≡ map (λ k. (of, k)) (range_with_len a n) → All (λ s. s.of ≡ of) seats
  named_at of a n [] e = All-nil (λ (s : SeatIs C R). s.of ≡ of)
  named_at of a zero (s ∷ seats) e = absurd cc
  named_at of a (suc n) (s ∷ seats) e =
      let h : ◌≡◌ {A = TableId × ℕ} (s.of, s.number) (of, a) = cc in
      let r : names seats ≡ map (λ k. (of, k)) (range_with_len (a + 1) n) = cc in
      All-cons (λ (s : SeatIs C R). s.of ≡ of) s seats (ap (λ (p : TableId × ℕ). p.0) h) (named_at of (a + 1) n seats r)

  -- seats with the names of all are of the turn
  pub all_of_turn : (of : TableId) (n : ℕ) (seats : List (SeatIs C R)) → names seats ≡ all_names of n → All (λ s. s.of ≡ of) seats
  all_of_turn of n seats e = named_at of 0 n seats e

  every_at : (of : TableId) (a n : ℕ) (seats : List (SeatIs C R)) → names seats ≡ map (λ k. (of, k)) (range_with_len a n) → (k : ℕ) → a ≤ k → k < a + n → (s : SeatIs C R) × Contains seats s × (s.number ≡ k)
  every_at of a zero seats e k low high = absurd (omega arith)
  every_at of a (suc n) [] e k low high = absurd cc
  every_at of a (suc n) (s ∷ seats) e k low high =
      let h : ◌≡◌ {A = TableId × ℕ} (s.of, s.number) (of, a) = cc in
      let r : names seats ≡ map (λ k. (of, k)) (range_with_len (a + 1) n) = cc in
      elim (ℕ_discrete a k) [ yes p ↦ (s, (0, omega arith, refl), ap (λ (q : TableId × ℕ). q.1) h ∙ p) | no p ↦ (let w = every_at of (a + 1) n seats r k (omega arith) (omega arith) in (w.0, (suc w.1.0, (let b = w.1.1 in omega arith), w.1.2), w.2)) ]

  -- and they are every one
  pub every_of_turn : (of : TableId) (n : ℕ) (seats : List (SeatIs C R)) → names seats ≡ all_names of n → HasEvery n seats
  every_of_turn of n seats e k below = every_at of 0 n seats e k (omega arith) (omega arith)

  pub count_of_turn : (of : TableId) (n : ℕ) (seats : List (SeatIs C R)) → names seats ≡ all_names of n → length seats ≡ n
  count_of_turn of n seats e = sym (length-map seats name) ∙ (ap length e ∙ length-map-range_with_len (λ k. (of, k)) 0 n)

  -- a seat that is worked keeps its name
  pub name_stays : (seats : List (SeatIs C R)) (k : ℕ) (old new : SeatIs C R) → k < length seats → old ≡ get_or seats k old → new.of ≡ old.of → new.number ≡ old.number → names (set seats k new) ≡ names seats
  name_stays [] k old new below at p q = absurd (omega arith)
  name_stays (s ∷ seats) zero old new below at p q = ap (λ (n : TableId × ℕ). n ∷ names seats) (let a : new.of ≡ s.of = p ∙ ap (λ (x : SeatIs C R). x.of) at in let b : new.number ≡ s.number = q ∙ ap (λ (x : SeatIs C R). x.number) at in cc)
  name_stays (s ∷ seats) (suc k) old new below at p q = ap (λ l. (s.of, s.number) ∷ l) (name_stays seats k old new (omega arith) at p q)

made_at : (C R : Type 0) (of : TableId) (ks : List ℕ) → names {C = C} {R = R} (map (new_seat of) ks) ≡ map (λ k. (of, k)) ks
made_at C R of [] = refl
made_at C R of (k ∷ ks) = ap (λ l. (of, k) ∷ l) (made_at C R of ks)

-- new seats have the names of all
pub names_made : (C R : Type 0) (of : TableId) (n : ℕ) → names {C = C} {R = R} (new_seats of 0 n) ≡ all_names of n
names_made C R of n = made_at C R of (range_with_len 0 n)
