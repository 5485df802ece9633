-- Fields stand one behind the other, with one space between each two.
use Rattle.std.proofs.Common.{◌≡◌, ℕ, ◌+◌, ◌<◌, List, [], ◌∷◌, ◌++◌, length, get_or, drop, refl, sym, ◌∙◌, append_assoc, arith, length-append, length-drop}
use Rattle.std.specs.List.{position_or_len}
use Rattle.std.proofs.lemmas.Bool.{eqb-true, eq-eqb}
use Rattle.std.proofs.lemmas.List.{take_at, drop_at}
use Rattle.std.proofs.lemmas.List.Sums.{split_at_first, passes_at_first}
use Rattle.call_trace.specs.Fields.{is_byte, is_space, field, behind}
use Rattle.call_trace.proofs.Lines.{Lacks}

place_of : (mark : ℕ) (xs ys : List ℕ) → Lacks mark xs → position_or_len (is_byte mark) (xs ++ mark ∷ ys) ≡ length xs
place_of mark [] ys lacks = rw (eq-eqb mark mark refl) refl
place_of mark (x ∷ xs) ys lacks = rw (lacks.0, place_of mark xs ys lacks.1) (omega arith)

pub field_of : (xs ys : List ℕ) → Lacks 32 xs → field (xs ++ 32 ∷ ys) ≡ xs
field_of xs ys lacks = rw (place_of 32 xs ys lacks) (take_at xs (32 ∷ ys) (length xs) refl)

pub behind_of : (xs ys : List ℕ) → Lacks 32 xs → behind (xs ++ 32 ∷ ys) ≡ ys
behind_of xs ys lacks =
    let regrouped : xs ++ 32 ∷ ys ≡ (xs ++ 32 ∷ []) ++ ys = sym (append_assoc xs (32 ∷ []) ys) in
    let there : drop (length xs + 1) (xs ++ 32 ∷ ys) ≡ ys = rw regrouped (drop_at (xs ++ 32 ∷ []) ys (length xs + 1) (omega (arith, length-append xs (32 ∷ [])))) in
    rw (place_of 32 xs ys lacks) there

-- where something stands behind the first field, a space stands between
pub joined : (bytes : List ℕ) → 0 < length (behind bytes) → bytes ≡ field bytes ++ 32 ∷ behind bytes
joined bytes some =
    let inside : position_or_len is_space bytes < length bytes = omega (arith, length-drop (position_or_len is_space bytes + 1) bytes) in
    let byte : get_or bytes (position_or_len is_space bytes) 0 ≡ 32 = eqb-true _ _ (passes_at_first is_space bytes 0 inside) in
    rw byte at (split_at_first is_space bytes 0 inside)

pub parts : (bytes front back : List ℕ) → field bytes ≡ front → behind bytes ≡ back → 0 < length back → bytes ≡ front ++ 32 ∷ back
parts bytes front back is-front is-back some = joined bytes (rw is-back some) ∙ rw (is-front, is-back) refl
