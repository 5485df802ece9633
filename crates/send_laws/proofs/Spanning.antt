-- The entries of a span, one after another, and the bounds of both budgets over it.
use Rattle.std.proofs.Common.{◌≡◌, ℕ, suc, zero, ◌+◌, ◌*◌, ◌<◌, ◌≤◌, inl, inr, Some, List, [], ◌∷◌, ◌++◌, length, take, drop, slice_get, refl, sym, ◌∙◌, ap, subst, arith, add-one, length-append}
use Rattle.std.proofs.Math.Seq.{drop-cons}
use Rattle.std.proofs.lemmas.List.{take_more, take-append-le, take-append-drop, drop-append-le, get_or-take, length-take}
use Rattle.std.proofs.lemmas.Option.{slice_get_within, slice_get_cases, get_or_from_slice_get}
use Rattle.send_core.specs.declared.call.Entry.{Entry}
use Rattle.send_core.specs.History.{sent}
use Rattle.send_core.specs.Levels.{window}
use Rattle.send_core.specs.Reply.{reply, IsAnswered, IsLegal}
use Rattle.send_laws.specs.Spans.{span}
use Rattle.send_laws.specs.Budgets.{bytes_of, last_from, rate_of, integral_of}
use Rattle.send_laws.specs.declared.budget.Budget.{Budget}
use Rattle.send_laws.specs.declared.budget.Budget.TheVariants.{Media, Padding}
use Rattle.send_laws.proofs.Bounding.{spent-bounded}
use Rattle.send_laws.proofs.Padding.{padding-bounded}

-- ---- lists

-- the first k items are these and one more
pub take-next : {X : Type 0} (xs : List X) (k : ℕ) (x : X) → slice_get xs k ≡ Some x → take (k + 1) xs ≡ take k xs ++ x ∷ []
take-next xs k x is = take_more xs k x (slice_get_within xs k x is) ∙ ap (λ y. take k xs ++ y ∷ []) (get_or_from_slice_get xs k x x is)

pub within-take : {X : Type 0} (xs : List X) (i k : ℕ) → i ≤ k → k ≤ length xs → i ≤ length (take k xs)
within-take xs i k le within = omega (arith, length-take k xs)

take-take : {X : Type 0} (xs : List X) (i k : ℕ) → i ≤ k → k ≤ length xs → take i (take k xs) ≡ take i xs
take-take xs i k le within =
    sym (take-append-le i (take k xs) (drop k xs) (within-take xs i k le within)) ∙ ap (take i) (take-append-drop k xs)

-- what lies between, behind what lies before
pub rejoined : {X : Type 0} (xs : List X) (i k : ℕ) → i ≤ k → k ≤ length xs → take i xs ++ drop i (take k xs) ≡ take k xs
rejoined xs i k le within = ap (λ ys. ys ++ drop i (take k xs)) (sym (take-take xs i k le within)) ∙ take-append-drop i (take k xs)

pub between-none : {X : Type 0} (xs : List X) (i : ℕ) → drop i (take i xs) ≡ []
between-none xs zero = refl
between-none [] (suc i) = refl
between-none (x ∷ xs) (suc i) = between-none xs i

pub between-more : {X : Type 0} (xs : List X) (i k : ℕ) (x : X) → i ≤ k → slice_get xs k ≡ Some x → drop i (take (k + 1) xs) ≡ drop i (take k xs) ++ x ∷ []
between-more xs i k x le is =
    let lt : k < length xs = slice_get_within xs k x is in
    ap (drop i) (take-next xs k x is) ∙ drop-append-le i (take k xs) (x ∷ []) (within-take xs i k le (omega arith))

-- what lies between begins with the first of it
pub between-first : {X : Type 0} (xs : List X) (i k : ℕ) (x : X) → i < k → k ≤ length xs → slice_get xs i ≡ Some x
    → drop i (take k xs) ≡ x ∷ drop (i + 1) (take k xs)
between-first xs i k x lt within is =
    let inside : i < length (take k xs) = omega (arith, length-take k xs) in
    rw add-one
    (drop-cons (take k xs) i x inside
    ∙ ap (λ y. y ∷ drop (suc i) (take k xs)) (get_or-take k xs i x lt ∙ get_or_from_slice_get xs i x x is))

pub slice_get-longer : {X : Type 0} (xs ys : List X) (n : ℕ) (x : X) → slice_get xs n ≡ Some x → slice_get (xs ++ ys) n ≡ Some x
slice_get-longer [] ys n x is = absurd cc
slice_get-longer (y ∷ xs) ys zero x is = is
slice_get-longer (y ∷ xs) ys (suc n) x is = slice_get-longer xs ys n x is

-- ---- answered histories

answered-front : (xs ys : List Entry) → IsAnswered (xs ++ ys) → IsAnswered xs
answered-front xs ys legal = λ n e is.
    let lt : n < length xs = slice_get_within xs n e is in
    subst (λ (t : List Entry). e.reply ≡ reply t e.call) (take-append-le n xs ys (omega arith)) (legal n e (slice_get-longer xs ys n e is))

pub answered-take : (k : ℕ) (h : List Entry) → IsAnswered h → IsAnswered (take k h)
answered-take k h legal = answered-front (take k h) (drop k h) (subst IsAnswered (sym (take-append-drop k h)) legal)

-- of a legal history, which is also short
pub legal-take : (k : ℕ) (h : List Entry) → IsLegal h → IsLegal (take k h)
legal-take k h legal = record {
  short = omega (arith, legal.short, length-append (take k h) (drop k h), ap (length {A = Entry}) (take-append-drop k h));
  each = answered-take k h legal.each;
}

-- an answered history with one of its entries in the middle
pub answered-at : (h : List Entry) (k : ℕ) (e : Entry) → slice_get h k ≡ Some e → IsAnswered h → IsAnswered (take k h ++ e ∷ [])
answered-at h k e is legal = subst IsAnswered (take-next h k e is) (answered-take (k + 1) h legal)

-- ---- bounds

budget-bounded : (b : Budget) (before rest : List Entry) (first : Entry) → IsAnswered (before ++ first ∷ rest)
    → 8000000 * bytes_of b (sent (first ∷ rest))
    ≤ integral_of b (before ++ first ∷ []) rest + rate_of b before * window before + 8000000 * last_from b 0 (sent (first ∷ rest))
budget-bounded Media before rest first legal = spent-bounded before rest first legal
budget-bounded Padding before rest first legal = padding-bounded before rest first legal

bounded-along : (b : Budget) (before rest upto all : List Entry) (first : Entry) → all ≡ first ∷ rest → upto ≡ before ++ first ∷ [] → IsAnswered (before ++ all)
    → 8000000 * bytes_of b (sent all) ≤ integral_of b upto rest + rate_of b before * window before + 8000000 * last_from b 0 (sent all)
bounded-along b before rest upto all first is ends legal =
    rw (is, ends) (budget-bounded b before rest first (subst (λ es. IsAnswered (before ++ es)) is legal))

pub span-bounded : (b : Budget) (h : List Entry) (i j : ℕ) (first : Entry) → slice_get h i ≡ Some first → i ≤ j → j < length h → IsAnswered h
    → 8000000 * bytes_of b (sent (span i j h))
    ≤ integral_of b (take (i + 1) h) (span (i + 1) j h) + rate_of b (take i h) * window (take i h) + 8000000 * last_from b 0 (sent (span i j h))
span-bounded b h i j first is le lt legal =
    bounded-along b (take i h) (span (i + 1) j h) (take (i + 1) h) (span i j h) first
    (between-first h i (j + 1) first (omega arith) (omega arith) is) (take-next h i first is)
    (subst IsAnswered (sym (rejoined h i (j + 1) (omega arith) (omega arith))) (answered-take (j + 1) h legal))

-- the same where the first entry is not named
pub span-bound : (b : Budget) (h : List Entry) (i j : ℕ) → i ≤ j → j < length h → IsAnswered h
    → 8000000 * bytes_of b (sent (span i j h))
    ≤ integral_of b (take (i + 1) h) (span (i + 1) j h) + rate_of b (take i h) * window (take i h) + 8000000 * last_from b 0 (sent (span i j h))
span-bound b h i j le lt legal = elim (slice_get_cases h i).1 [
  | inl found ↦ span-bounded b h i j found.0 found.2 le lt legal
  | inr past ↦ absurd (omega (arith, past.0))
]
