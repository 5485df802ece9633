-- One line more.
use Rattle.std.proofs.Common.{◌≡◌, ℕ, suc, zero, ◌+◌, Some, List, [], ◌∷◌, ◌++◌, length, take, slice_get, length-take, ◌∙◌, ap, arith}
use Rattle.std.proofs.lemmas.Option.{slice_get_within}
use Rattle.gcc_units.proofs.Walk.{flat_each-push}
use Rattle.resending.specs.declared.nack_line.NackLine.{NackLine}
use Rattle.resending.specs.NackText.{nack_text, nack_lines}

taken : (xs : List NackLine) (k : ℕ) (x : NackLine) → slice_get xs k ≡ Some x → take (k + 1) xs ≡ take k xs ++ x ∷ []
taken [] k x is = absurd cc
taken (y ∷ ys) zero x is = let same : y ≡ x = cc in ap (λ z. z ∷ []) same
taken (y ∷ ys) (suc k) x is = let e : suc k + 1 ≡ suc (k + 1) = omega arith in rw e (ap (λ zs. y ∷ zs) (taken ys k x is))

pub lines-next : (xs : List NackLine) (k : ℕ) (x : NackLine) → slice_get xs k ≡ Some x → nack_lines (take (k + 1) xs) ≡ nack_lines (take k xs) ++ nack_text k x
lines-next xs k x is =
    let within = slice_get_within xs k x is in
    let count : length (take k xs) ≡ k = omega (arith, length-take k xs, within) in
    ap nack_lines (taken xs k x is)
    ∙ (flat_each-push (λ before l. nack_text (length before) l) (take k xs) x ∙ ap (λ n. nack_lines (take k xs) ++ nack_text n x) count)
