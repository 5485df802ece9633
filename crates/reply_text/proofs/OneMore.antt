-- One more entry, and one more glance.
use Rattle.std.proofs.Common.{◌≡◌, ℕ, suc, zero, ◌+◌, ◌<◌, ◌==◌, cond, Some, List, [], ◌∷◌, ◌++◌, length, take, slice_get, refl, sym, ◌∙◌, ap, arith, append_assoc, get_or}
use Rattle.std.specs.List.{flat_map}
use Rattle.std.proofs.lemmas.List.{append-nil}
use Rattle.std.proofs.lemmas.List.Sums.{fold-append}
use Rattle.std.proofs.lemmas.Grind.{flat_map-append}
use Rattle.reply_text.specs.declared.seen.Seen.{Seen}
use Rattle.reply_text.specs.Text.{glances_by, glance_line, glance_lines}

pub take-next : {X : Type 0} (xs : List X) (k : ℕ) (x : X) → slice_get xs k ≡ Some x → take (k + 1) xs ≡ take k xs ++ x ∷ []
take-next [] k x is = absurd cc
take-next (y ∷ ys) zero x is = let same : y ≡ x = cc in ap (λ z. z ∷ []) same
take-next (y ∷ ys) (suc k) x is = let e : suc k + 1 ≡ suc (k + 1) = omega arith in rw e (ap (λ zs. y ∷ zs) (take-next ys k x is))

pub flat_map-next : {X A : Type 0} (f : X → List A) (xs : List X) (k : ℕ) (x : X) → slice_get xs k ≡ Some x
    → flat_map f (take (k + 1) xs) ≡ flat_map f (take k xs) ++ f x
flat_map-next f xs k x is =
    ap (flat_map f) (take-next xs k x is) ∙ (flat_map-append f (take k xs) (x ∷ []) ∙ ap (λ ys. flat_map f (take k xs) ++ ys) (append-nil (f x)))

-- what a list gives at a place that it has
pub get-there : {X : Type 0} (xs : List X) (k : ℕ) (d : X) → k < length xs → slice_get xs k ≡ Some (get_or xs k d)
get-there [] k d below = absurd (omega arith)
get-there (y ∷ ys) zero d below = refl
get-there (y ∷ ys) (suc k) d below = get-there ys k d (omega arith)

pub glance_lines-push : (before xs : List Seen) (x : Seen)
    → glance_lines before (xs ++ x ∷ []) ≡ glance_lines before xs ++ glance_line (glances_by x.actor (before ++ xs)) x
glance_lines-push before [] x =
    append-nil (glance_line (glances_by x.actor before) x) ∙ ap (λ b. glance_line (glances_by x.actor b) x) (sym (append-nil before))
glance_lines-push before (y ∷ ys) x =
    let first : List ℕ = glance_line (glances_by y.actor before) y in
    ap (λ ls. first ++ ls) (glance_lines-push (before ++ y ∷ []) ys x)
    ∙ (ap (λ b. first ++ (glance_lines (before ++ y ∷ []) ys ++ glance_line (glances_by x.actor b) x)) (append_assoc before (y ∷ []) ys)
    ∙ sym (append_assoc first (glance_lines (before ++ y ∷ []) ys) (glance_line (glances_by x.actor (before ++ y ∷ ys)) x)))

pub glances_by-push : (a : ℕ) (xs : List Seen) (x : Seen) → glances_by a (xs ++ x ∷ []) ≡ glances_by a xs + cond (x.actor == a) 1 0
glances_by-push a xs x = fold-append (λ n (g : Seen). n + cond (g.actor == a) 1 0) 0 xs (x ∷ [])
