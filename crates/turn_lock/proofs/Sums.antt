-- Sums over views, beginnings of a history, and the entries of one caller.
use Rattle.std.proofs.Common.{◌≡◌, ◌≢◌, ℕ, zero, suc, ◌+◌, ◌<◌, ◌≤◌, eqb, cond, List, [], ◌∷◌, ◌++◌, length, set, get_or, sym, refl, ap, subst, ◌∙◌, eq-eqb, ne_eqb, append_assoc, append-nil, arith, Some, None, Option, ◌⊎◌, inl, inr, ⊎_elim, get_or-set_same}
use mathlib.Core.Option.{some, some-injective, some-ne-none}
use lib.ListN.{get_elem?}
use Rattle.std.proofs.lemmas.List.Elements.{filter-append}
use Rattle.turn_lock.specs.declared.entry.Entry.{Entry}
use Rattle.atomic_table.proofs.Lists.{at_set, at_snoc}
use Rattle.turn_lock.specs.Rule.{total, by, BeginsWith, InLine, NoTwo}

module _ {A : Type 0} where
  pub at_below : (l : List A) (i : ℕ) (a : A) → get_elem? l i ≡ some a → i < length l
  at_below [] i a e = absurd (some-ne-none a (sym e))
  at_below (x ∷ xs) zero a e = omega arith
  at_below (x ∷ xs) (suc i) a e = let h = at_below xs i a e in omega arith

  pub total-set : (f : A → ℕ) (l : List A) (i : ℕ) (v w : A) → get_elem? l i ≡ some v → total f (set l i w) + f v ≡ total f l + f w
  total-set f [] i v w e = absurd (some-ne-none v (sym e))
  total-set f (x ∷ xs) zero v w e = let h = ap f (some-injective x v e) in omega arith
  total-set f (x ∷ xs) (suc i) v w e = let h = total-set f xs i v w e in omega arith

  pub total-append : (f : A → ℕ) (xs ys : List A) → total f (xs ++ ys) ≡ total f xs + total f ys
  total-append f [] ys = omega arith
  total-append f (x ∷ xs) ys = let h = total-append f xs ys in omega arith

  pub term_le : (f : A → ℕ) (l : List A) (i : ℕ) (v : A) → get_elem? l i ≡ some v → f v ≤ total f l
  term_le f [] i v e = absurd (some-ne-none v (sym e))
  term_le f (x ∷ xs) zero v e = let h = ap f (some-injective x v e) in omega arith
  term_le f (x ∷ xs) (suc i) v e = let h = term_le f xs i v e in omega arith

  pub terms_le : (f : A → ℕ) (l : List A) (i j : ℕ) (v w : A) → i ≢ j → get_elem? l i ≡ some v → get_elem? l j ≡ some w → f v + f w ≤ total f l
  terms_le f [] i j v w n e d = absurd (some-ne-none v (sym e))
  terms_le f (x ∷ xs) zero zero v w n e d = absurd (n refl)
  terms_le f (x ∷ xs) zero (suc j) v w n e d = let h = ap f (some-injective x v e) in let g = term_le f xs j w d in omega arith
  terms_le f (x ∷ xs) (suc i) zero v w n e d = let h = ap f (some-injective x w d) in let g = term_le f xs i v e in omega arith
  terms_le f (x ∷ xs) (suc i) (suc j) v w n e d = let h = terms_le f xs i j v w (λ p. n (ap suc p)) e d in omega arith

  pub total_le : (f g : A → ℕ) (l : List A) → ((i : ℕ) (v : A) → get_elem? l i ≡ some v → f v ≤ g v) → total f l ≤ total g l
  total_le f g [] h = omega arith
  total_le f g (x ∷ xs) h = let a = h 0 x refl in let b = total_le f g xs (λ i v e. h (suc i) v e) in omega arith

  -- where one place has all of the sum, any other has none
  pub nowhere : (f : A → ℕ) (l : List A) (i : ℕ) (v : A) → total f l ≡ 0 → get_elem? l i ≡ some v → f v ≡ 0
  nowhere f l i v z e = let h = term_le f l i v e in omega arith

  pub at_append : (xs ys : List A) (i : ℕ) (a : A) → get_elem? (xs ++ ys) i ≡ some a → ((j : ℕ) × (get_elem? xs j ≡ some a)) ⊎ ((j : ℕ) × (get_elem? ys j ≡ some a))
  at_append [] ys i a e = inr (i, e)
  at_append (x ∷ xs) ys zero a e = inl (0, e)
  at_append (x ∷ xs) ys (suc i) a e = elim (at_append xs ys i a e) [ inl p ↦ inl (suc p.0, p.1) | inr p ↦ inr p ]

-- one place changes, whose new element is related to none of the others
module _ {A : Type 0} (Q : A → A → Type 0) (flip : (v w : A) → Q v w → Q w v) (l : List A) (i : ℕ) (a : A) where
  pub no_two-set : NoTwo Q l → ((j : ℕ) (u : A) → j ≢ i → get_elem? l j ≡ some u → Q a u → ⊥) → NoTwo Q (set l i a)
  no_two-set two alone j k v w e d q =
      ⊎_elim
      (λ p. ⊎_elim (λ r. p.0 ∙ sym r.0) (λ r. absurd (alone k w r.0 r.1 (subst (λ x. Q x w) (sym p.1) q))) (at_set l i k a w d))
      (λ p. ⊎_elim (λ r. absurd (alone j v p.0 p.1 (subst (λ x. Q x v) (sym r.1) (flip v w q)))) (λ r. two j k v w p.1 r.1 q) (at_set l i k a w d))
      (at_set l i j a v e)

module _ {C R : Type 0} where
  pub begins_all : (log : List (Entry C R)) → BeginsWith log log
  begins_all log = ([], sym (append-nil log))

  pub begins_none : (log : List (Entry C R)) → BeginsWith log []
  begins_none log = (log, refl)

  pub begins_more : (log seen es : List (Entry C R)) → BeginsWith log seen → BeginsWith (log ++ es) seen
  begins_more log seen es b = (b.0 ++ es, ap (λ l. l ++ es) b.1 ∙ append_assoc seen b.0 es)

  pub begins_through : (a b c : List (Entry C R)) → BeginsWith a b → BeginsWith b c → BeginsWith a c
  begins_through a b c p q = subst (λ l. BeginsWith l c) (sym p.1) (begins_more b c p.0 q)

  -- one entry more of the caller, or of another
  pub by-own : (k : ℕ) (log : List (Entry C R)) (e : Entry C R) → e.caller ≡ k → by k (log ++ e ∷ []) ≡ by k log ++ e ∷ []
  by-own k log e same = filter-append (λ (d : Entry C R). eqb d.caller k) log (e ∷ []) ∙ ap (λ b. by k log ++ cond b (e ∷ []) []) (eq-eqb e.caller k same)

  pub by-other : (k : ℕ) (log : List (Entry C R)) (e : Entry C R) → e.caller ≢ k → by k (log ++ e ∷ []) ≡ by k log
  by-other k log e other = filter-append (λ (d : Entry C R). eqb d.caller k) log (e ∷ []) ∙ (ap (λ b. by k log ++ cond b (e ∷ []) []) (ne_eqb e.caller k other) ∙ append-nil (by k log))

-- a ticket in a line is in any longer one
pub line_longer : (serving a b : ℕ) (o : Option ℕ) → a ≤ b → InLine serving a o → InLine serving b o
line_longer serving a b None le h = tt
line_longer serving a b (Some t) le h = (h.0, omega arith)

pub line_at : (serving a : ℕ) (o : Option ℕ) (t : ℕ) → InLine serving a o → o ≡ Some t → (serving ≤ t) × (t < serving + a)
line_at serving a o t h e = subst (InLine serving a) e h

-- a ticket that is not the served one is in the line behind it
pub line_behind : (serving a b : ℕ) (o : Option ℕ) → a ≡ b + 1 → (o ≡ Some serving → ⊥) → InLine serving a o → InLine (serving + 1) b o
line_behind serving a b None e n h = tt
line_behind serving a b (Some t) e n h = let ne : t ≢ serving = λ p. n (ap Some p) in (omega arith, omega arith)

-- a word that is written, and those beside it
pub word_here : (ws : List ℕ) (i n : ℕ) → length ws ≡ 3 → i < 3 → get_or (set ws i n) i 0 ≡ n
word_here ws i n e lt = let h : i < length ws = omega arith in get_or-set_same ws i n 0 h

-- an element at the end that is related to none
pub no_two-append : {A : Type 0} (Q : A → A → Type 0) (flip : (v w : A) → Q v w → Q w v) (l : List A) (a : A) → NoTwo Q l → ((u : A) → Q a u → ⊥) → NoTwo Q (l ++ a ∷ [])
no_two-append Q flip l a two alone i j v w e d q =
    ⊎_elim
    (λ p. ⊎_elim (λ r. two i j v w p r q) (λ r. absurd (alone v (subst (λ x. Q x v) (sym r) (flip v w q)))) (at_snoc l a w j d))
    (λ p. absurd (alone w (subst (λ x. Q x w) (sym p) q)))
    (at_snoc l a v i e)

pub total_zero : {A : Type 0} (f : A → ℕ) (l : List A) → ((i : ℕ) (v : A) → get_elem? l i ≡ some v → f v ≡ 0) → total f l ≡ 0
total_zero f [] h = refl
total_zero f (x ∷ xs) h = let a = h 0 x refl in let b = total_zero f xs (λ i v e. h (suc i) v e) in omega arith
