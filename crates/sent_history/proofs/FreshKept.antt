-- What the set of places says of the slots.
use Rattle.std.proofs.Common.{◌≡◌, ℕ, ◌+◌, ◌-◌, ◌%◌, ◌<◌, Bool, true, false, List, length, get_or, refl, ap, sym, ◌∙◌, arith}
use Rattle.sent_history.specs.declared.slot.Slot.{Slot}
use Rattle.sent_history.specs.Fresh.{bit_of, bit, is_fresh, HasFresh}

pub bit_none : (b : Bool) → bit b ≡ 0 → b ≡ false
bit_none true e = absurd (omega (arith, e))
bit_none false e = refl

-- no slot is fresh whose place is not in the set
pub stale_at : (origin base from k : ℕ) (words : List ℕ) (slots : List Slot) (d : Slot) → HasFresh origin words slots → k < length slots
    → (origin + k) % 32768 ≡ base + (k - from) → bit_of words (base + (k - from)) ≡ 0 → is_fresh (get_or slots k d) ≡ false
stale_at origin base from k words slots d has inside place none = bit_none (is_fresh (get_or slots k d)) (sym (has k d inside) ∙ ap (bit_of words) place ∙ none)
