-- Distinct places in a list name no more elements of a kind than it has.
use Rattle.std.proofs.Common.{◌≡◌, ℕ, zero, suc, ◌+◌, ◌≤◌, ◌==◌, ◌||◌, Bool, true, false, Option, None, Some, List, [], ◌∷◌, ◌++◌, slice_get, inl, inr, refl, sym, ◌∙◌, ap, arith, eq-eqb, ne_eqb}
use Rattle.std.specs.List.{list_any}
use Rattle.std.proofs.lemmas.Bool.{eqb-true, cases_eq}
use Rattle.std.proofs.lemmas.List.Folds.{list_any-append}
use Rattle.pacer.specs.declared.sent.Sent.{Sent}
use Rattle.pacer.specs.Pace.{is_index, names}
use Rattle.send_laws.specs.Order.{IsNotAmong, AreFresh}
use Rattle.send_laws.proofs.Spanning.{slice_get-longer}

abbrev pub ones : Bool → ℕ
ones true = 1
ones false = 0

-- at how many of the numbers the test is true
abbrev pub tally : (ℕ → Bool) → List ℕ → ℕ
tally f [] = 0
tally f (n ∷ ns) = ones (f n) + tally f ns

-- how many elements are of the kind
abbrev pub those : {A : Type 0} → (A → Bool) → List A → ℕ
those p [] = 0
those p (x ∷ xs) = ones (p x) + those p xs

-- there is an element, and it is of the kind
abbrev pub holds : {A : Type 0} → (A → Bool) → Option A → Bool
holds p None = false
holds p (Some x) = p x

abbrev pub is_at : {A : Type 0} → (A → Bool) → List A → ℕ → Bool
is_at p xs k = holds p (slice_get xs k)

abbrev pub equals : ℕ → ℕ → Bool
equals k n = k == n

-- ---- lists of places behind the first

zero_suc : (n : ℕ) → (0 == suc n) ≡ false
zero_suc n = ne_eqb 0 (suc n) (λ e. absurd (omega (arith, e)))

suc_zero : (n : ℕ) → (suc n == 0) ≡ false
suc_zero n = ne_eqb (suc n) 0 (λ e. absurd (omega (arith, e)))

suc_suc : (k n : ℕ) → (suc k == suc n) ≡ (k == n)
suc_suc k n = elim (cases_eq k n) [
  | inl e ↦ eq-eqb (suc k) (suc n) (ap suc e) ∙ sym (eq-eqb k n e)
  | inr d ↦ ne_eqb (suc k) (suc n) (λ p. d (omega (arith, p))) ∙ sym (ne_eqb k n d)
]

abbrev less_one : ℕ → List ℕ
less_one zero = []
less_one (suc n) = n ∷ []

abbrev less : List ℕ → List ℕ
less [] = []
less (n ∷ ns) = less_one n ++ less ns

abbrev here : Bool → ℕ → ℕ
here true t = t
here false t = 0

here_more : (b : Bool) (t u l r : ℕ) → u ≡ 1 + t → l ≤ here b t + r → ones b + l ≤ here b u + r
here_more true t u l r is le = omega (arith, is, le)
here_more false t u l r is le = omega (arith, le)

here_same : (b : Bool) (t u l r m : ℕ) → u ≡ t → l ≤ here b t + r → m + l ≤ here b u + (m + r)
here_same true t u l r m is le = omega (arith, is, le)
here_same false t u l r m is le = omega (arith, le)

zero_first : (ns : List ℕ) → tally (equals 0) (zero ∷ ns) ≡ 1 + tally (equals 0) ns
zero_first ns = let e : ones (0 == 0) ≡ 1 = ap ones (eq-eqb 0 0 refl) in omega (arith, e)

zero_not : (n : ℕ) (ns : List ℕ) → tally (equals 0) (suc n ∷ ns) ≡ tally (equals 0) ns
zero_not n ns = let e : ones (0 == suc n) ≡ 0 = ap ones (zero_suc n) in omega (arith, e)

split : {A : Type 0} (p : A → Bool) (x : A) (xs : List A) (ns : List ℕ)
    → tally (is_at p (x ∷ xs)) ns ≤ here (p x) (tally (equals 0) ns) + tally (is_at p xs) (less ns)
split p x xs [] = omega arith
split p x xs (zero ∷ ns) =
    here_more (p x) (tally (equals 0) ns) (tally (equals 0) (zero ∷ ns)) (tally (is_at p (x ∷ xs)) ns) (tally (is_at p xs) (less ns)) (zero_first ns) (split p x xs ns)
split p x xs (suc n ∷ ns) =
    here_same (p x) (tally (equals 0) ns) (tally (equals 0) (suc n ∷ ns)) (tally (is_at p (x ∷ xs)) ns) (tally (is_at p xs) (less ns)) (ones (is_at p xs n)) (zero_not n ns) (split p x xs ns)

shift : (k : ℕ) (ns : List ℕ) → tally (equals (suc k)) ns ≡ tally (equals k) (less ns)
shift k [] = refl
shift k (zero ∷ ns) = let e : ones (suc k == 0) ≡ 0 = ap ones (suc_zero k) in let rest = shift k ns in omega (arith, e, rest)
shift k (suc n ∷ ns) = let e : ones (suc k == suc n) ≡ ones (k == n) = ap ones (suc_suc k n) in let rest = shift k ns in omega (arith, e, rest)

nowhere : {A : Type 0} (p : A → Bool) (ns : List ℕ) → tally (is_at p []) ns ≡ 0
nowhere p [] = refl
nowhere p (n ∷ ns) = let rest = nowhere p ns in omega (arith, rest)

first_or_not : (b : Bool) (t l r m : ℕ) → t ≤ 1 → l ≤ here b t + r → r ≤ m → l ≤ ones b + m
first_or_not true t l r m one le more = omega (arith, one, le, more)
first_or_not false t l r m one le more = omega (arith, le, more)

pub few_places : {A : Type 0} (p : A → Bool) (xs : List A) (ns : List ℕ) → ((k : ℕ) → tally (equals k) ns ≤ 1) → tally (is_at p xs) ns ≤ those p xs
few_places p [] ns once = let z = nowhere p ns in omega (arith, z)
few_places p (x ∷ xs) ns once =
    first_or_not (p x) (tally (equals 0) ns) (tally (is_at p (x ∷ xs)) ns) (tally (is_at p xs) (less ns)) (those p xs) (once 0) (split p x xs ns)
    (few_places p xs (less ns) (λ k. let s = shift k ns in let o = once (suc k) in omega (arith, s, o)))

-- ---- more elements, more places

ones_more : {A : Type 0} (p : A → Bool) (xs ys : List A) (n : ℕ) (o : Option A) → slice_get xs n ≡ o → ones (holds p o) ≤ ones (is_at p (xs ++ ys) n)
ones_more p xs ys n None is = omega arith
ones_more p xs ys n (Some x) is = let e = ap (λ o. ones (holds p o)) (slice_get-longer xs ys n x is) in omega (arith, e)

pub more_elements : {A : Type 0} (p : A → Bool) (xs ys : List A) (ns : List ℕ) → tally (is_at p xs) ns ≤ tally (is_at p (xs ++ ys)) ns
more_elements p xs ys [] = omega arith
more_elements p xs ys (n ∷ ns) = let one = ones_more p xs ys n (slice_get xs n) refl in let rest = more_elements p xs ys ns in omega (arith, one, rest)

pub tally-append : (f : ℕ → Bool) (ms ns : List ℕ) → tally f (ms ++ ns) ≡ tally f ms + tally f ns
tally-append f [] ns = omega arith
tally-append f (m ∷ ms) ns = let rest = tally-append f ms ns in omega (arith, rest)

pub those-append : {A : Type 0} (p : A → Bool) (xs ys : List A) → those p (xs ++ ys) ≡ those p xs + those p ys
those-append p [] ys = omega arith
those-append p (x ∷ xs) ys = let rest = those-append p xs ys in omega (arith, rest)

-- ---- the places that records name

abbrev pub index_in : Option ℕ → List ℕ
index_in None = []
index_in (Some k) = k ∷ []

abbrev pub indices : List Sent → List ℕ
indices [] = []
indices (r ∷ rs) = index_in r.index ++ indices rs

list_assoc : (xs ys zs : List ℕ) → (xs ++ ys) ++ zs ≡ xs ++ (ys ++ zs)
list_assoc [] ys zs = refl
list_assoc (x ∷ xs) ys zs = ap (λ l. x ∷ l) (list_assoc xs ys zs)

pub indices-append : (rs more : List Sent) → indices (rs ++ more) ≡ indices rs ++ indices more
indices-append [] more = refl
indices-append (r ∷ rs) more = ap (λ l. index_in r.index ++ l) (indices-append rs more) ∙ sym (list_assoc (index_in r.index) (indices rs) (indices more))

or_true : (b : Bool) → (b || true) ≡ true
or_true true = refl
or_true false = refl

named_behind : (k : ℕ) (so_far : List Sent) (r : Sent) → names k so_far ≡ true → names k (so_far ++ r ∷ []) ≡ true
named_behind k so_far r named =
    list_any-append (λ (x : Sent). is_index k x.index) so_far (r ∷ []) ∙ ap (λ b. b || list_any (λ (x : Sent). is_index k x.index) (r ∷ [])) named

named_last : (k : ℕ) (so_far : List Sent) (r : Sent) → is_index k r.index ≡ true → names k (so_far ++ r ∷ []) ≡ true
named_last k so_far r is =
    list_any-append (λ (x : Sent). is_index k x.index) so_far (r ∷ []) ∙ (ap (λ b. names k so_far || (b || false)) is ∙ or_true (names k so_far))

-- a place that was named is not named again
not_again : (k : ℕ) (so_far : List Sent) (o : Option ℕ) (ns : List ℕ) → names k so_far ≡ true → IsNotAmong so_far o → tally (equals k) ns ≡ 0 → tally (equals k) (index_in o ++ ns) ≡ 0
not_again k so_far None ns named fresh none = none
not_again k so_far (Some i) ns named fresh none = of (k == i) refl
  where
    of : (b : Bool) → (k == i) ≡ b → tally (equals k) (i ∷ ns) ≡ 0
    of true is =
        let same : k ≡ i = eqb-true k i is in
        let clash : true ≡ false = sym named ∙ (ap (λ j. names j so_far) same ∙ fresh) in
        absurd cc
    of false is = let z : ones (k == i) ≡ 0 = ap ones is in omega (arith, z, none)

none_again : (k : ℕ) (so_far rs : List Sent) → names k so_far ≡ true → AreFresh so_far rs → tally (equals k) (indices rs) ≡ 0
none_again k so_far [] named fresh = refl
none_again k so_far (r ∷ rs) named fresh =
    not_again k so_far r.index (indices rs) named fresh.0 (none_again k (so_far ++ r ∷ []) rs (named_behind k so_far r named) fresh.1)

at_most_one : (k : ℕ) (o : Option ℕ) (ns : List ℕ) → (is_index k o ≡ true → tally (equals k) ns ≡ 0) → tally (equals k) ns ≤ 1 → tally (equals k) (index_in o ++ ns) ≤ 1
at_most_one k None ns none few = few
at_most_one k (Some i) ns none few = of (k == i) refl
  where
    of : (b : Bool) → (k == i) ≡ b → tally (equals k) (i ∷ ns) ≤ 1
    of true is = let z = none is in let w : ones (k == i) ≡ 1 = ap ones is in omega (arith, z, w)
    of false is = let w : ones (k == i) ≡ 0 = ap ones is in omega (arith, w, few)

-- no place is named twice
pub named_once : (so_far rs : List Sent) → AreFresh so_far rs → (k : ℕ) → tally (equals k) (indices rs) ≤ 1
named_once so_far [] fresh k = omega arith
named_once so_far (r ∷ rs) fresh k =
    at_most_one k r.index (indices rs) (λ is. none_again k (so_far ++ r ∷ []) rs (named_last k so_far r is) fresh.1) (named_once (so_far ++ r ∷ []) rs fresh.1 k)
