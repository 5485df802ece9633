-- What is read piece by piece, and what is written so.
use Rattle.std.proofs.Common.{◌≡◌, ℕ, ◌+◌, ◌-◌, ◌<◌, ◌≤◌, Option, None, Some, IfSome, List, [], ◌++◌, length, take, refl, sym, ◌∙◌, ap, arith, append_assoc, append-nil, length-append, length-take-le}
use Rattle.std.specs.Io.KnownBytes.{Consumes, IsAtEnd}

pub Consumes-none : (a : Option (List ℕ)) → Consumes a a []
Consumes-none None = tt
Consumes-none (Some xs) = refl

pub Consumes-then : (a b c : Option (List ℕ)) (xs ys : List ℕ) → Consumes a b xs → Consumes b c ys → Consumes a c (xs ++ ys)
Consumes-then None b c xs ys first second = tt
Consumes-then (Some a) None c xs ys first second = absurd first
Consumes-then (Some a) (Some b) None xs ys first second = absurd second
Consumes-then (Some a) (Some b) (Some c) xs ys first second = first ∙ (ap (λ zs. xs ++ zs) second ∙ sym (append_assoc xs ys c))

-- where nothing more came, all was read
pub all_read : (a b c : Option (List ℕ)) (xs : List ℕ) → Consumes a b xs → Consumes b c [] → IsAtEnd c
    → IfSome a (λ all. (xs ≡ all) × (c ≡ Some []))
all_read None b c xs first second end = tt
all_read (Some a) None c xs first second end = absurd first
all_read (Some a) (Some b) None xs first second end = absurd second
all_read (Some a) (Some b) (Some c) xs first second end =
    let none : b ≡ [] = second ∙ end in
    (sym (first ∙ (ap (λ zs. xs ++ zs) none ∙ append-nil xs)), ap Some end)

-- so much came that there is more than the most
pub too_long : (most n : ℕ) (a b c : Option (List ℕ)) (xs piece : List ℕ) → Consumes a b xs → Consumes b c (take n piece) → n ≤ length piece
    → most - length xs < n → length xs ≤ most → IfSome a (λ all. most < length all)
too_long most n None b c xs piece first second fits more few = tt
too_long most n (Some a) None c xs piece first second fits more few = absurd first
too_long most n (Some a) (Some b) None xs piece first second fits more few = absurd second
too_long most n (Some a) (Some b) (Some c) xs piece first second fits more few =
    let long : length a ≡ length xs + length b = ap length first ∙ length-append xs b in
    let longer : length b ≡ length (take n piece) + length c = ap length second ∙ length-append (take n piece) c in
    let n_is : length (take n piece) ≡ n = length-take-le n piece fits in
    omega arith
