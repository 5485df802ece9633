-- The lines of the glances of one actor after another.
use Rattle.std.proofs.Common.{◌≡◌, ℕ, suc, zero, ◌+◌, ◌≤◌, ◌<◌, ◌==◌, cond, true, false, Bool, Some, List, [], ◌∷◌, ◌++◌, length, take, slice_get, refl, sym, ◌∙◌, ap, arith, append_assoc, zero-add, length-append}
use Rattle.std.specs.List.{flat_map, range_with_len}
use Rattle.std.proofs.lemmas.List.{append-nil}
use Rattle.std.proofs.lemmas.List.Elements.{filter-append}
use Rattle.std.proofs.lemmas.List.Sums.{sum_by-append}
use Rattle.std.proofs.lemmas.Bool.{eqb-true, ne_eqb}
use Rattle.reply_text.specs.declared.seen.Seen.{Seen}
use Rattle.reply_text.specs.Text.{glances_by, glance_line, glance_lines}
use Rattle.reply_text.proofs.OneMore.{take-next, glance_lines-push}
use Rattle.run_top.specs.Replay.{of_actor}
use Rattle.run_top.proofs.Serving.{flat_map-range}

-- ---- one glance more

own-one : (a : ℕ) (x : Seen) → (x.actor == a) ≡ true → of_actor (x ∷ []) a ≡ x ∷ []
own-one a x theirs = ap (λ b. cond b (x ∷ []) []) theirs

own-none : (a : ℕ) (x : Seen) → (x.actor == a) ≡ false → of_actor (x ∷ []) a ≡ []
own-none a x others = ap (λ b. cond b (x ∷ []) []) others

own-next : (xs : List Seen) (k a : ℕ) (x : Seen) → slice_get xs k ≡ Some x → of_actor (take (k + 1) xs) a ≡ of_actor (take k xs) a ++ of_actor (x ∷ []) a
own-next xs k a x is = ap (λ ys. of_actor ys a) (take-next xs k x is) ∙ filter-append (λ (g : Seen). g.actor == a) (take k xs) (x ∷ [])

pub own-yes : (xs : List Seen) (k a : ℕ) (x : Seen) → slice_get xs k ≡ Some x → (x.actor == a) ≡ true → of_actor (take (k + 1) xs) a ≡ of_actor (take k xs) a ++ x ∷ []
own-yes xs k a x is theirs = own-next xs k a x is ∙ ap (λ ys. of_actor (take k xs) a ++ ys) (own-one a x theirs)

pub own-no : (xs : List Seen) (k a : ℕ) (x : Seen) → slice_get xs k ≡ Some x → (x.actor == a) ≡ false → of_actor (take (k + 1) xs) a ≡ of_actor (take k xs) a
own-no xs k a x is others = own-next xs k a x is ∙ (ap (λ ys. of_actor (take k xs) a ++ ys) (own-none a x others) ∙ append-nil (of_actor (take k xs) a))

-- ---- how many are an actor's

pub by-append : (a : ℕ) (xs ys : List Seen) → glances_by a (xs ++ ys) ≡ glances_by a xs + glances_by a ys
by-append a xs ys = sum_by-append (λ (g : Seen). cond (g.actor == a) 1 0) xs ys

by-one : (a : ℕ) (x : Seen) (b : Bool) → (x.actor == a) ≡ b → glances_by a (x ∷ []) ≡ cond b 1 0
by-one a x b is = ap (λ v. 0 + cond v 1 0) is ∙ zero-add (cond b 1 0)

one-plus : (n : ℕ) → 1 + n ≡ suc n
one-plus n = omega arith

own-step : (a : ℕ) (x : Seen) (xs : List Seen) (b : Bool) → (x.actor == a) ≡ b → glances_by a (of_actor xs a) ≡ length (of_actor xs a)
    → glances_by a (cond b (x ∷ of_actor xs a) (of_actor xs a)) ≡ length (cond b (x ∷ of_actor xs a) (of_actor xs a))
own-step a x xs true is rest =
    let one : glances_by a (x ∷ []) ≡ 1 = by-one a x true is in
    by-append a (x ∷ []) (of_actor xs a) ∙ (ap (λ n. n + glances_by a (of_actor xs a)) one ∙ (ap (λ n. 1 + n) rest ∙ one-plus (length (of_actor xs a))))
own-step a x xs false is rest = rest

-- all of an actor's own are the actor's
pub by-own : (a : ℕ) (xs : List Seen) → glances_by a (of_actor xs a) ≡ length (of_actor xs a)
by-own a [] = refl
by-own a (x ∷ xs) = own-step a x xs (x.actor == a) refl (by-own a xs)

other-step : (a b : ℕ) (x : Seen) (xs : List Seen) (v : Bool) → b < a → (x.actor == b) ≡ v → glances_by a (of_actor xs b) ≡ 0
    → glances_by a (cond v (x ∷ of_actor xs b) (of_actor xs b)) ≡ 0
other-step a b x xs true low is rest =
    let same : x.actor ≡ b = eqb-true x.actor b is in
    let other : (x.actor == a) ≡ false = ne_eqb x.actor a (λ e. omega arith) in
    by-append a (x ∷ []) (of_actor xs b) ∙ (ap (λ n. n + glances_by a (of_actor xs b)) (by-one a x false other) ∙ ap (λ n. 0 + n) rest)
other-step a b x xs false low is rest = rest

-- none of another's own is
pub by-others : (a b : ℕ) (xs : List Seen) → b < a → glances_by a (of_actor xs b) ≡ 0
by-others a b [] low = refl
by-others a b (x ∷ xs) low = other-step a b x xs (x.actor == b) low refl (by-others a b xs low)

-- none of those of lower actors is
pub by-lower : (a n : ℕ) (xs : List Seen) → n ≤ a → glances_by a (flat_map (of_actor xs) (range_with_len 0 n)) ≡ 0
by-lower a zero xs low = refl
by-lower a (suc n) xs low =
    let one : n + 1 ≡ suc n = omega arith in
    let grown : flat_map (of_actor xs) (range_with_len 0 (suc n)) ≡ flat_map (of_actor xs) (range_with_len 0 n) ++ of_actor xs n =
    ap (λ k. flat_map (of_actor xs) (range_with_len 0 k)) (sym one) ∙ flat_map-range (of_actor xs) n in
    ap (glances_by a) grown
    ∙ (by-append a (flat_map (of_actor xs) (range_with_len 0 n)) (of_actor xs n)
    ∙ (let front : glances_by a (flat_map (of_actor xs) (range_with_len 0 n)) ≡ 0 = by-lower a n xs (omega arith) in
    let back : glances_by a (of_actor xs n) ≡ 0 = by-others a n xs (omega arith) in
    omega (arith, front, back)))

-- ---- lines

pub lines-append : (before xs ys : List Seen) → glance_lines before (xs ++ ys) ≡ glance_lines before xs ++ glance_lines (before ++ xs) ys
lines-append before [] ys = ap (λ b. glance_lines b ys) (sym (append-nil before))
lines-append before (x ∷ xs) ys =
    let first : List ℕ = glance_line (glances_by x.actor before) x in
    ap (λ ls. first ++ ls) (lines-append (before ++ x ∷ []) xs ys)
    ∙ (sym (append_assoc first (glance_lines (before ++ x ∷ []) xs) (glance_lines ((before ++ x ∷ []) ++ xs) ys))
    ∙ ap (λ b. (first ++ glance_lines (before ++ x ∷ []) xs) ++ glance_lines b ys) (append_assoc before (x ∷ []) xs))

-- an actor's next glance has as number how many of its own were before it
pub lines-own : (before own : List Seen) (a n : ℕ) (x : Seen) → glances_by a before ≡ 0 → glances_by a own ≡ n → (x.actor == a) ≡ true
    → glance_lines before (own ++ x ∷ []) ≡ glance_lines before own ++ glance_line n x
lines-own before own a n x none count theirs =
    let same : x.actor ≡ a = eqb-true x.actor a theirs in
    let number : glances_by x.actor (before ++ own) ≡ n = ap (λ k. glances_by k (before ++ own)) same ∙ (by-append a before own ∙ omega (arith, none, count)) in
    glance_lines-push before own x ∙ ap (λ k. glance_lines before own ++ glance_line k x) number

-- the glances of one actor more
pub lines-actor : (xs : List Seen) (n : ℕ)
    → glance_lines [] (flat_map (of_actor xs) (range_with_len 0 (n + 1)))
    ≡ glance_lines [] (flat_map (of_actor xs) (range_with_len 0 n)) ++ glance_lines (flat_map (of_actor xs) (range_with_len 0 n)) (of_actor xs n)
lines-actor xs n =
    ap (glance_lines []) (flat_map-range (of_actor xs) n) ∙ lines-append [] (flat_map (of_actor xs) (range_with_len 0 n)) (of_actor xs n)

-- what is told of an actor's glances so far, and of its next one
pub told-own : (first text more : List ℕ) (before xs : List Seen) (k a n : ℕ) (x : Seen) → slice_get xs k ≡ Some x → (x.actor == a) ≡ true → n ≡ length (of_actor (take k xs) a)
    → text ≡ first ++ glance_lines before (of_actor (take k xs) a) → glances_by a before ≡ 0 → more ≡ text ++ glance_line n x
    → more ≡ first ++ glance_lines before (of_actor (take (k + 1) xs) a)
told-own first text more before xs k a n x is theirs count texts none grown =
    let own : List Seen = of_actor (take k xs) a in
    grown
    ∙ (ap (λ t. t ++ glance_line n x) texts
    ∙ (append_assoc first (glance_lines before own) (glance_line n x)
    ∙ ap (λ ys. first ++ ys) (sym (ap (glance_lines before) (own-yes xs k a x is theirs) ∙ lines-own before own a n x none (by-own a (take k xs) ∙ sym count) theirs))))

pub count-own : (xs : List Seen) (k a n : ℕ) (x : Seen) → slice_get xs k ≡ Some x → (x.actor == a) ≡ true → n ≡ length (of_actor (take k xs) a)
    → n + 1 ≡ length (of_actor (take (k + 1) xs) a)
count-own xs k a n x is theirs count =
    ap (λ m. m + 1) count ∙ sym (ap length (own-yes xs k a x is theirs) ∙ length-append (of_actor (take k xs) a) (x ∷ []))
