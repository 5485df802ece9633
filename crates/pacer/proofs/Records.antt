-- What records leave unsent.
use Rattle.std.proofs.Common.{◌≡◌, ℕ, ◌≤◌, ◌==◌, ◌||◌, ◌&&◌, Bool, true, false, not, Option, None, Some, List, [], ◌∷◌, ◌++◌, All, filter, refl, ◌∙◌, ap, arith}
use Rattle.std.proofs.lemmas.Bool.Decides.{nat_tests}
use Rattle.std.proofs.lemmas.List.Elements.{All-head, All-tail, filter-append}
use Rattle.std.proofs.lemmas.List.Folds.{list_any-append}
use Rattle.pace_queues.specs.declared.ticket.Ticket.{Ticket}
use Rattle.pace_queues.specs.Waiting.{without}
use Rattle.pacer.specs.declared.sent.Sent.{Sent}
use Rattle.pacer.specs.Pace.{is_index, names, IsBelow, NamesBelow, unsent}

-- tests that agree keep the same
filter-same : {X : Type 0} (p q : X → Bool) → ((x : X) → p x ≡ q x) → (xs : List X) → filter p xs ≡ filter q xs
filter-same p q same [] = refl
filter-same p q same (x ∷ xs) = rw (same x, filter-same p q same xs) refl

-- one filter behind another is the filter by both tests
filter-both : {X : Type 0} (p q r : X → Bool) → ((x : X) → r x ≡ (p x && q x)) → (xs : List X) → filter r xs ≡ filter q (filter p xs)
filter-both p q r both [] = refl
filter-both {X} p q r both (x ∷ xs) = step (p x) (q x) refl refl (both x) (filter-both p q r both xs)
  where
    step : (b c : Bool) → p x ≡ b → q x ≡ c → r x ≡ (p x && q x) → filter r xs ≡ filter q (filter p xs) → filter r (x ∷ xs) ≡ filter q (filter p (x ∷ xs))
    step true true e f g h = rw (g, e, f) (ap (λ ys. x ∷ ys) h)
    step true false e f g h = rw (g, e, f) h
    step false c e f g h = rw (g, e) h

not-or : (b c : Bool) → not (b || c) ≡ (not b && not c)
not-or true c = refl
not-or false c = refl

or-false : (b : Bool) → (b || false) ≡ b
or-false true = refl
or-false false = refl

-- ---- what records leave unsent

pub unsent-append : (records : List Sent) (ts us : List Ticket) → unsent records (ts ++ us) ≡ unsent records ts ++ unsent records us
unsent-append records ts us = filter-append (λ (t : Ticket). not (names t.index records)) ts us

pub unsent-then : (xs ys : List Sent) (ts : List Ticket) → unsent (xs ++ ys) ts ≡ unsent ys (unsent xs ts)
unsent-then xs ys ts =
    filter-both (λ (t : Ticket). not (names t.index xs)) (λ (t : Ticket). not (names t.index ys)) (λ (t : Ticket). not (names t.index (xs ++ ys)))
    (λ t. rw (list_any-append (λ (r : Sent). is_index t.index r.index) xs ys) (not-or (names t.index xs) (names t.index ys))) ts

pub unsent-none : (ts : List Ticket) → unsent [] ts ≡ ts
unsent-none [] = refl
unsent-none (t ∷ ts) = rw (unsent-none ts) refl

-- a record of a packet leaves all but that packet unsent
pub unsent-one : (r : Sent) (k : ℕ) → r.index ≡ Some k → (ts : List Ticket) → unsent (r ∷ []) ts ≡ without k ts
unsent-one r k is ts =
    filter-same (λ (u : Ticket). not (names u.index (r ∷ []))) (λ (u : Ticket). not (u.index == k))
    (λ u. ap not (or-false (is_index u.index r.index) ∙ ap (is_index u.index) is)) ts

-- a record of no packet leaves all unsent
pub unsent-no_index : (r : Sent) → r.index ≡ None → (ts : List Ticket) → unsent (r ∷ []) ts ≡ ts
unsent-no_index r is [] = refl
unsent-no_index r is (t ∷ ts) =
    let named : names t.index (r ∷ []) ≡ false = or-false (is_index t.index r.index) ∙ ap (is_index t.index) is in
    rw (named, unsent-no_index r is ts) refl

-- records of earlier packets do not name a later one
pub names-none : (count k : ℕ) (records : List Sent) → All (NamesBelow count) records → count ≤ k → names k records ≡ false
names-none count k [] all late = refl
names-none count k (r ∷ rs) all late =
    rw (other r.index (All-head (NamesBelow count) r rs all), names-none count k rs (All-tail (NamesBelow count) r rs all) late) refl
  where
    other : (o : Option ℕ) → IsBelow count o → is_index k o ≡ false
    other None below = refl
    other (Some j) below = grind (arith, nat_tests)

-- and so leave it unsent
pub unsent-later : (count : ℕ) (records : List Sent) → All (NamesBelow count) records → (ts : List Ticket) → All (λ (t : Ticket). count ≤ t.index) ts
    → unsent records ts ≡ ts
unsent-later count records all [] late = refl
unsent-later count records all (t ∷ ts) late =
    rw (
      names-none count t.index records all (All-head (λ (u : Ticket). count ≤ u.index) t ts late),
      unsent-later count records all ts (All-tail (λ (u : Ticket). count ≤ u.index) t ts late),
    ) refl
