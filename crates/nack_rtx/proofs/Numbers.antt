-- Numbers that are named one after the other are the first places of all.
use Rattle.std.proofs.Common.{◌≡◌, ℕ, ◌+◌, ◌≤◌, ◌==◌, Bool, true, false, cond, ◌||◌, List, [], ◌∷◌, ◌++◌, count_by, refl, sym, ap, subst, ◌∙◌, arith, append_assoc, append-nil}
use Rattle.std.specs.List.{flat_map}
use Rattle.std.proofs.lemmas.List.Folds.{list_any-append}
use Rattle.std.proofs.lemmas.Bool.{eqb-true}
use Rattle.std.proofs.lemmas.List.Sums.{sum_by-append, sum_by-cons}
use Rattle.gcc_units.specs.Walk.{each_by}
use Rattle.gcc_units.proofs.Walk.{flat_each-push}
use Rattle.nack_rtx.specs.Naming.{has, first_at, first_of}
use Rattle.nack_rtx.specs.Running.{with_number, adding}

abbrev pub SameHas : List ℕ → List ℕ → Type 0
SameHas there before = (m : ℕ) → has there m ≡ has before m

or_false : (b : Bool) → (b || false) ≡ b
or_false true = refl
or_false false = refl

-- a number that is there is no more there when it is named once more
there_already : (b c : Bool) → (c ≡ true → b ≡ true) → b ≡ (b || (c || false))
there_already true c h = refl
there_already false true h = h refl
there_already false false h = refl

has-push : (xs : List ℕ) (n m : ℕ) → has (xs ++ n ∷ []) m ≡ (has xs m || ((n == m) || false))
has-push xs n m = list_any-append (λ k. k == m) xs (n ∷ [])

with_if : (there before : List ℕ) (n m : ℕ) (b : Bool) → SameHas there before → has before n ≡ b → has (there ++ cond b [] (n ∷ [])) m ≡ has (before ++ n ∷ []) m
with_if there before n m true same e =
    ap (λ (xs : List ℕ). has xs m) (append-nil there) ∙ same m
    ∙ there_already (has before m) (n == m) (λ h. ap (has before) (sym (eqb-true n m h)) ∙ e)
    ∙ sym (has-push before n m)
with_if there before n m false same e = has-push there n m ∙ ap (λ b. b || ((n == m) || false)) (same m) ∙ sym (has-push before n m)

with_has : (there before : List ℕ) (n : ℕ) → SameHas there before → SameHas (with_number there n) (before ++ n ∷ [])
with_has there before n same m = with_if there before n m (has there n) same (sym (same n))

pub adding_is : (there before numbers : List ℕ) → SameHas there before → adding there numbers ≡ there ++ flat_map (λ (xs : List ℕ). xs) (each_by first_at before numbers)
adding_is there before [] same = sym (append-nil there)
adding_is there before (n ∷ ns) same =
    adding_is (with_number there n) (before ++ n ∷ []) ns (with_has there before n same)
    ∙ append_assoc there (first_at there n) (flat_map (λ (xs : List ℕ). xs) (each_by first_at (before ++ n ∷ []) ns))
    ∙ ap (λ b. there ++ (cond b [] (n ∷ []) ++ flat_map (λ (xs : List ℕ). xs) (each_by first_at (before ++ n ∷ []) ns))) (same n)

pub adding_has : (there before numbers : List ℕ) → SameHas there before → SameHas (adding there numbers) (before ++ numbers)
adding_has there before [] same m = same m ∙ ap (λ (xs : List ℕ). has xs m) (sym (append-nil before))
adding_has there before (n ∷ ns) same m =
    adding_has (with_number there n) (before ++ n ∷ []) ns (with_has there before n same) m ∙ ap (λ (xs : List ℕ). has xs m) (append_assoc before (n ∷ []) ns)

-- what is named one after the other from nothing on
pub from_nothing : (numbers : List ℕ) → adding [] numbers ≡ first_of numbers
unfolding first_of
from_nothing numbers = adding_is [] [] numbers (λ m. refl)

pub adding-append : (there xs ys : List ℕ) → adding there (xs ++ ys) ≡ adding (adding there xs) ys
adding-append there [] ys = refl
adding-append there (x ∷ xs) ys = adding-append (with_number there x) xs ys

-- ---- the law

pub first-has : (numbers : List ℕ) → SameHas (first_of numbers) numbers
first-has numbers m = ap (λ (xs : List ℕ). has xs m) (sym (from_nothing numbers)) ∙ adding_has [] [] numbers (λ n. refl) m

pub first-push : (numbers : List ℕ) (n : ℕ) → first_of (numbers ++ n ∷ []) ≡ first_of numbers ++ first_at numbers n
unfolding first_of
first-push numbers n = flat_each-push first_at numbers n

abbrev count : Bool → ℕ
count b = cond b 1 0

abbrev once : ℕ → List ℕ → ℕ
once n numbers = count_by (λ m. m == n) numbers

none_if : (n x : ℕ) (xs : List ℕ) (b : Bool) → (has xs n ≡ false → once n xs ≡ 0) → (x == n) ≡ b → (b || has xs n) ≡ false → once n (x ∷ xs) ≡ 0
none_if n x xs true more is e = absurd cc
none_if n x xs false more is e =
    let zero : once n xs ≡ 0 = more e in
    omega (arith, sum_by-cons (λ (m : ℕ). cond (m == n) 1 0) x xs, ap count is, zero)

none_once : (n : ℕ) (xs : List ℕ) → has xs n ≡ false → once n xs ≡ 0
none_once n [] e = refl
none_once n (x ∷ xs) e = none_if n x xs (x == n) (none_once n xs) refl e

once-push : (n k : ℕ) (xs : List ℕ) → once n (xs ++ k ∷ []) ≡ once n xs + cond (k == n) 1 0
once-push n k xs = sum_by-append (λ m. cond (m == n) 1 0) xs (k ∷ []) ∙ ap (λ c. once n xs + c) (sum_by-cons (λ m. cond (m == n) 1 0) k [] ∙ omega arith)

once_with : (n k : ℕ) (xs : List ℕ) (b c : Bool) → has xs k ≡ b → (k == n) ≡ c → once n xs ≤ 1 → once n (xs ++ cond b [] (k ∷ [])) ≤ 1
once_with n k xs true c e is le = subst (λ (ys : List ℕ). once n ys ≤ 1) (sym (append-nil xs)) le
once_with n k xs false true e is le =
    let zero : once n xs ≡ 0 = none_once n xs (ap (has xs) (sym (eqb-true k n is)) ∙ e) in
    omega (arith, once-push n k xs, ap count is, zero)
once_with n k xs false false e is le = omega (arith, once-push n k xs, ap count is)

adding_once : (there numbers : List ℕ) (n : ℕ) → once n there ≤ 1 → once n (adding there numbers) ≤ 1
adding_once there [] n le = le
adding_once there (k ∷ ks) n le = adding_once (with_number there k) ks n (once_with n k there (has there k) (k == n) refl refl le)

pub first-once : (numbers : List ℕ) (n : ℕ) → once n (first_of numbers) ≤ 1
first-once numbers n = subst (λ (xs : List ℕ). once n xs ≤ 1) (from_nothing numbers) (adding_once [] numbers n (omega arith))
