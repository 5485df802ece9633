-- One more element of a walk, and of lists that each element lengthens.
use Rattle.std.proofs.Common.{◌≡◌, ℕ, suc, zero, List, [], ◌∷◌, ◌++◌, length, take, drop, refl, sym, ◌∙◌, ap, append_assoc}
use Rattle.std.specs.List.{flat_map}
use Rattle.std.proofs.lemmas.List.{append-nil}
use Rattle.std.proofs.lemmas.Grind.{flat_map-append}
use Rattle.gcc_units.specs.Walk.{walk_from, walk, each_by}

walk_from-push : {A B : Type 0} (f : List A → B → A → B) (before : List A) (b : B) (xs : List A) (x : A)
    → walk_from f before b (xs ++ x ∷ []) ≡ f (before ++ xs) (walk_from f before b xs) x
walk_from-push f before b [] x = ap (λ ys. f ys b x) (sym (append-nil before))
walk_from-push f before b (y ∷ ys) x =
    walk_from-push f (before ++ y ∷ []) (f before b y) ys x
    ∙ ap (λ zs. f zs (walk_from f (before ++ y ∷ []) (f before b y) ys) x) (append_assoc before (y ∷ []) ys)

-- what one more element does
pub walk-push : {A B : Type 0} (f : List A → B → A → B) (b : B) (xs : List A) (x : A) → walk f b (xs ++ x ∷ []) ≡ f xs (walk f b xs) x
walk-push f b xs x = walk_from-push f [] b xs x

pub each_by-append : {A B : Type 0} (f : List A → A → B) (before xs ys : List A)
    → each_by f before (xs ++ ys) ≡ each_by f before xs ++ each_by f (before ++ xs) ys
each_by-append f before [] ys = ap (λ zs. each_by f zs ys) (sym (append-nil before))
each_by-append f before (x ∷ xs) ys =
    ap (λ zs. f before x ∷ zs)
    (each_by-append f (before ++ x ∷ []) xs ys
    ∙ ap (λ zs. each_by f (before ++ x ∷ []) xs ++ each_by f zs ys) (append_assoc before (x ∷ []) xs))

pub each_by-push : {A B : Type 0} (f : List A → A → B) (before xs : List A) (x : A)
    → each_by f before (xs ++ x ∷ []) ≡ each_by f before xs ++ f (before ++ xs) x ∷ []
each_by-push f before xs x = each_by-append f before xs (x ∷ [])

pub each_by-length : {A B : Type 0} (f : List A → A → B) (before xs : List A) → length (each_by f before xs) ≡ length xs
each_by-length f before [] = refl
each_by-length f before (x ∷ xs) = ap suc (each_by-length f (before ++ x ∷ []) xs)

pub each_by-drop : {A B : Type 0} (f : List A → A → B) (i : ℕ) (before xs : List A)
    → drop i (each_by f before xs) ≡ each_by f (before ++ take i xs) (drop i xs)
each_by-drop f zero before xs = ap (λ zs. each_by f zs xs) (sym (append-nil before))
each_by-drop f (suc i) before [] = refl
each_by-drop f (suc i) before (x ∷ xs) =
    each_by-drop f i (before ++ x ∷ []) xs ∙ ap (λ zs. each_by f zs (drop i xs)) (append_assoc before (x ∷ []) (take i xs))

-- what one more element adds to a list that each element lengthens
pub flat_map-push : {X A : Type 0} (f : X → List A) (xs : List X) (x : X) → flat_map f (xs ++ x ∷ []) ≡ flat_map f xs ++ f x
flat_map-push f xs x = flat_map-append f xs (x ∷ []) ∙ ap (λ ys. flat_map f xs ++ ys) (append-nil (f x))

-- the same for a list that each element lengthens by what stood before it
pub flat_each-push : {A B : Type 0} (f : List A → A → List B) (xs : List A) (x : A)
    → flat_map (λ (ys : List B). ys) (each_by f [] (xs ++ x ∷ [])) ≡ flat_map (λ (ys : List B). ys) (each_by f [] xs) ++ f xs x
flat_each-push {A} {B} f xs x =
    ap (flat_map (λ (ys : List B). ys)) (each_by-push f [] xs x) ∙ flat_map-push (λ (ys : List B). ys) (each_by f [] xs) (f xs x)
