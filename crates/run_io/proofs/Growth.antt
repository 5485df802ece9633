-- Texts that were written one after another, whole or in part.
use Rattle.std.specs.Prelude.{◌≡◌, ℕ, Option, None, Some, List, [], ◌++◌, refl}
use Rattle.std.proofs.Common.{sym, ◌∙◌, ap, append_assoc, append-nil}
use Rattle.run_io.specs.Growth.{Grew, GrewInPart}

-- what did not change grew by nothing
pub Grew-nothing : (a : Option (List ℕ)) → Grew a a []
Grew-nothing None = tt
Grew-nothing (Some before) = sym (append-nil before)

-- and what grew by nothing did not change
pub nothing-Grew : (a b : Option (List ℕ)) → Grew a b [] → b ≡ a
nothing-Grew None None grew = refl
nothing-Grew None (Some now) grew = absurd grew
nothing-Grew (Some before) None grew = absurd grew
nothing-Grew (Some before) (Some now) grew = ap Some (grew ∙ append-nil before)

-- one text, and then another
pub Grew-then : (a b c : Option (List ℕ)) (xs ys : List ℕ) → Grew a b xs → Grew b c ys → Grew a c (xs ++ ys)
Grew-then None None None xs ys first second = tt
Grew-then None None (Some c) xs ys first second = absurd second
Grew-then None (Some b) c xs ys first second = absurd first
Grew-then (Some a) None c xs ys first second = absurd first
Grew-then (Some a) (Some b) None xs ys first second = absurd second
Grew-then (Some a) (Some b) (Some c) xs ys first second = second ∙ ap (λ zs. zs ++ ys) first ∙ append_assoc a xs ys

-- a whole text is a beginning of itself
pub Grew-in-part : (a b : Option (List ℕ)) (xs : List ℕ) → Grew a b xs → GrewInPart a b xs
Grew-in-part a b xs grew = (xs, ([], append-nil xs), grew)

-- nothing is a beginning of any text
pub GrewInPart-nothing : (a : Option (List ℕ)) (xs : List ℕ) → GrewInPart a a xs
GrewInPart-nothing a xs = ([], (xs, refl), Grew-nothing a)

-- one text, and then a beginning of another
pub GrewInPart-then : (a b c : Option (List ℕ)) (xs ys : List ℕ) → Grew a b xs → GrewInPart b c ys → GrewInPart a c (xs ++ ys)
GrewInPart-then a b c xs ys first (part, (rest, is), second) =
    (xs ++ part, (rest, append_assoc xs part rest ∙ ap (λ zs. xs ++ zs) is), Grew-then a b c xs part first second)

-- a beginning of a text is a beginning of a longer one
pub GrewInPart-longer : (a b : Option (List ℕ)) (xs ys : List ℕ) → GrewInPart a b xs → GrewInPart a b (xs ++ ys)
GrewInPart-longer a b xs ys (part, (rest, is), grew) =
    (part, (rest ++ ys, sym (append_assoc part rest ys) ∙ ap (λ zs. zs ++ ys) is), grew)
