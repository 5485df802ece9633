-- How many slots are not credited, with one of them replaced.
use Rattle.std.proofs.Common.{◌≡◌, ℕ, zero, suc, ◌+◌, ◌<◌, cond, List, [], ◌∷◌, length, slice_get, slice_set, count_by, Some, arith}
use Rattle.std.proofs.lemmas.List.Sums.{sum_by-cons}
use Rattle.sent_history.specs.declared.slot.Slot.{Slot}
use Rattle.sent_history.specs.Judging.{is_uncredited, uncredited_in}

counted : (s : Slot) (xs : List Slot) → count_by is_uncredited (s ∷ xs) ≡ uncredited_in (Some s) + count_by is_uncredited xs
counted s xs = sum_by-cons (λ (t : Slot). cond (is_uncredited t) 1 0) s xs

pub replaced : (xs : List Slot) (place : ℕ) (s : Slot) → place < length xs
    → count_by is_uncredited (slice_set xs place s) + uncredited_in (slice_get xs place) ≡ count_by is_uncredited xs + uncredited_in (Some s)
replaced [] place s lt = absurd (omega arith)
replaced (x ∷ xs) zero s lt = omega (arith, counted x xs, counted s xs)
replaced (x ∷ xs) (suc place) s lt = omega (arith, counted x xs, counted x (slice_set xs place s), replaced xs place s (omega arith))
