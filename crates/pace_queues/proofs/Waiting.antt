-- What follows of the words of `Waiting`: the next one is the least pair, and what is left is all but
-- just that one.
use Rattle.std.proofs.Common.{◌≡◌, inl, inr, ℕ, suc, zero, ◌==◌, Bool, true, false, not, Option, None, Some, IfSome, IsNone, ◌↔◌, List, [], ◌∷◌, All, AllPairs, Contains, filter, fold, refl, ap, subst, arith, get_or}
use Rattle.std.proofs.lemmas.Bool.Decides.{nat_tests}
use Rattle.std.proofs.lemmas.List.Elements.{All-nil, All-cons, All-head, All-tail, All-contains, All-filter, Contains-append_right}
use Rattle.pace_queues.specs.declared.ticket.Ticket.{Ticket}
use Rattle.pace_queues.specs.Waiting.{goes_before, better, next, without, GoesNoLater, IsLeast, LosesJust, CameBefore}

before-no_later : (a b : Ticket) → goes_before a b ≡ true → GoesNoLater a b
before-no_later a b h = grind (arith, nat_tests)

not_before-no_later : (a b : Ticket) → goes_before b a ≡ false → GoesNoLater a b
not_before-no_later a b h = grind (arith, nat_tests)

GoesNoLater-self : (a : Ticket) → GoesNoLater a a
GoesNoLater-self a = inr (refl, omega arith)

GoesNoLater-then : (a b c : Ticket) → GoesNoLater a b → GoesNoLater b c → GoesNoLater a c
GoesNoLater-then a b c (inl h) (inl k) = inl (omega arith)
GoesNoLater-then a b c (inl h) (inr k) = inl (omega arith)
GoesNoLater-then a b c (inr h) (inl k) = inl (omega arith)
GoesNoLater-then a b c (inr h) (inr k) = inr (omega arith, omega arith)

-- one more in second place loses nothing
Contains-insert : (a b : Ticket) (ts : List Ticket) (t : Ticket) → Contains (a ∷ ts) t → Contains (a ∷ b ∷ ts) t
Contains-insert a b ts t (zero, l, is) = (zero, omega arith, is)
Contains-insert a b ts t (suc k, l, is) = (suc (suc k), omega arith, is)

-- of the best so far and more, the one that is chosen
record Chosen (best : Ticket) (ts : List Ticket) : Type 0 where
  one : Ticket
  is : fold better (Some best) ts ≡ Some one
  least : IsLeast one (best ∷ ts)

chosen-step : (best u : Ticket) (ts : List Ticket) (b : Bool) → goes_before u best ≡ b → Chosen u ts → Chosen best ts → Chosen best (u ∷ ts)
chosen-step best u ts true e with_u with_best =
    let one : Ticket = with_u.one in
    record {
      one = one;
      is = rw e with_u.is;
      least = record {
        waits = Contains-append_right (best ∷ []) (u ∷ ts) one with_u.least.waits;
        least = All-cons (GoesNoLater one) best (u ∷ ts)
            (GoesNoLater-then one u best (All-head (GoesNoLater one) u ts with_u.least.least) (before-no_later u best e))
            with_u.least.least;
      };
    }
chosen-step best u ts false e with_u with_best =
    let one : Ticket = with_best.one in
    record {
      one = one;
      is = rw e with_best.is;
      least = record {
        waits = Contains-insert best u ts one with_best.least.waits;
        least = All-cons (GoesNoLater one) best (u ∷ ts) (All-head (GoesNoLater one) best ts with_best.least.least)
            (All-cons (GoesNoLater one) u ts
            (GoesNoLater-then one best u (All-head (GoesNoLater one) best ts with_best.least.least) (not_before-no_later best u e))
            (All-tail (GoesNoLater one) best ts with_best.least.least));
      };
    }

chosen : (best : Ticket) (ts : List Ticket) → Chosen best ts
chosen best [] = record {
  one = best;
  is = refl;
  least = record { waits = (0, omega arith, refl); least = All-cons (GoesNoLater best) best [] (GoesNoLater-self best) (All-nil (GoesNoLater best)) };
}
chosen best (u ∷ ts) = chosen-step best u ts (goes_before u best) refl (chosen u ts) (chosen best ts)

-- the next one has the least pair of rank and index
pub next-is_least : (waiting : List Ticket) → IfSome (next waiting) (λ t. IsLeast t waiting)
next-is_least [] = tt
next-is_least (t ∷ ts) = let c : Chosen t ts = chosen t ts in rw c.is c.least

-- what holds of all that wait holds of the next one
pub next-is_one : (P : Ticket → Type 0) (waiting : List Ticket) → All P waiting → IfSome (next waiting) P
next-is_one P waiting all = next_has P waiting all (next waiting) (next-is_least waiting)
  where
    next_has : (P : Ticket → Type 0) (waiting : List Ticket) → All P waiting → (o : Option Ticket) → IfSome o (λ t. IsLeast t waiting) → IfSome o P
    next_has P waiting all None h = tt
    next_has P waiting all (Some t) h = All-contains P waiting t all h.waits

-- what holds of all that wait holds of those that are left
pub All-without : (P : Ticket → Type 0) (index : ℕ) (waiting : List Ticket) → All P waiting → All P (without index waiting)
All-without P index waiting all = All-filter (λ (t : Ticket). not (t.index == index)) P waiting all

-- a test that all pass takes out nothing
filter-all : (test : Ticket → Bool) (ts : List Ticket) → All (λ t. test t ≡ true) ts → filter test ts ≡ ts
filter-all test [] all = refl
filter-all test (t ∷ ts) all =
    rw (All-head (λ u. test u ≡ true) t ts all, filter-all test ts (All-tail (λ u. test u ≡ true) t ts all)) refl

later-passes : (t u : Ticket) → CameBefore t u → not (u.index == t.index) ≡ true
later-passes t u h = grind (arith, nat_tests)

earlier-passes : (t u : Ticket) → CameBefore u t → not (u.index == t.index) ≡ true
earlier-passes t u h = grind (arith, nat_tests)

itself-fails : (t : Ticket) → not (t.index == t.index) ≡ false
itself-fails t = grind (arith, nat_tests)

-- the later ones have other indices
others-pass : (t : Ticket) (ts : List Ticket) → All (CameBefore t) ts → All (λ (u : Ticket). not (u.index == t.index) ≡ true) ts
others-pass t ts all = λ k d l. later-passes t (get_or ts k d) (all k d l)

pub AllPairs-head : (t : Ticket) (ts : List Ticket) → AllPairs CameBefore (t ∷ ts) → All (CameBefore t) ts
AllPairs-head t ts pairs = λ k d l. pairs 0 (suc k) d (omega arith) (omega arith)

pub AllPairs-tail : (t : Ticket) (ts : List Ticket) → AllPairs CameBefore (t ∷ ts) → AllPairs CameBefore ts
AllPairs-tail t ts pairs = λ i j d l m. pairs (suc i) (suc j) d (omega arith) (omega arith)

without-first : (t : Ticket) (ts : List Ticket) → All (CameBefore t) ts → LosesJust t (t ∷ ts) (without t.index (t ∷ ts))
without-first t ts later = record {
  front = [];
  back = ts;
  was = refl;
  now = rw (itself-fails t) (filter-all (λ (u : Ticket). not (u.index == t.index)) ts (others-pass t ts later));
}

without-later : (t u : Ticket) (us : List Ticket) → CameBefore u t → LosesJust t us (without t.index us) → LosesJust t (u ∷ us) (without t.index (u ∷ us))
without-later t u us before h = record {
  front = u ∷ h.front;
  back = h.back;
  was = ap (λ (ts : List Ticket). u ∷ ts) h.was;
  now = rw (earlier-passes t u before) (ap (λ (ts : List Ticket). u ∷ ts) h.now);
}

-- where indices rise, `without` takes out just the one with the index
pub without-one : (t : Ticket) (waiting : List Ticket) → AllPairs CameBefore waiting → Contains waiting t → LosesJust t waiting (without t.index waiting)
without-one t [] rising (k, l, is) = absurd (omega arith)
without-one t (u ∷ us) rising (zero, l, is) =
    subst (λ (v : Ticket). LosesJust v (u ∷ us) (without v.index (u ∷ us))) is (without-first u us (AllPairs-head u us rising))
without-one t (u ∷ us) rising (suc k, l, is) =
    without-later t u us
    (subst (λ (v : Ticket). CameBefore u v) is (rising 0 (suc k) t (omega arith) l))
    (without-one t us (AllPairs-tail u us rising) (k, omega arith, is))

-- the next one is none exactly where nothing waits
pub next-is_none : (waiting : List Ticket) → IsNone (next waiting) ↔ (waiting ≡ [])
next-is_none [] = (λ h. refl, λ h. refl)
next-is_none (t ∷ ts) =
    let c : Chosen t ts = chosen t ts in
    (λ h. absurd (some-is_none c.one (rw c.is at h)), λ e. absurd (let f : t ∷ ts ≡ [] = e in cc))
  where
    some-is_none : (t : Ticket) → IsNone (Some t) → ⊥
    some-is_none t h = let f : true ≡ false = h in cc
