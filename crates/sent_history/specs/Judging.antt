-- How the code judges: by the slots that are kept, one status after the other.
use Rattle.std.specs.Prelude.{ℕ, ℤ, ◌+ℤ◌, ◌+◌, ◌-◌, ◌%◌, Bool, true, false, not, cond, ◌==◌, nat_lt, if◌then◌else◌, List, [], ◌∷◌, length, slice_get, Option, Some, None}
use Rattle.gcc_units.specs.Unwrapping.{named_number}
use Rattle.gcc_units.specs.Listed.{bare}
use Rattle.gcc_units.specs.declared.shared_types.Judged.{Judged}
use Rattle.twcc_report.specs.declared.report.Status.{Status}
use Rattle.sent_history.specs.declared.slot.Slot.{Slot}
use Rattle.sent_history.specs.declared.slot.Verdict.{Verdict}
use Rattle.sent_history.specs.declared.slot.Verdict.TheVariants.{Unknown}
use Rattle.sent_history.specs.Crediting.{is_received, delta_of, verdict_on}

-- the slot of packet n, where it is one of the last
unfoldable pub kept_slot : List Slot → ℕ → ℕ → Option Slot
kept_slot slots sent n = if nat_lt n (sent - length slots) then None else slice_get slots (n - (sent - length slots))

abbrev pub slot_verdict_if : ℕ → Status → ℤ → Option Slot → Verdict
slot_verdict_if n status arrived None = Unknown
slot_verdict_if n status arrived (Some s) = verdict_on s.credited s.missed n s.packet status arrived

unfoldable pub slot_verdict : List Slot → ℕ → Status → Option ℕ → ℤ → Verdict
slot_verdict slots sent status None arrived = Unknown
slot_verdict slots sent status (Some n) arrived = slot_verdict_if n status arrived (kept_slot slots sent n)

-- the verdicts from the next low number and the arrival before it on
abbrev pub running : (Status → Option ℕ → ℤ → Verdict) → ℕ → ℕ → ℤ → List Status → List Verdict
running judge sent low arrived [] = []
running judge sent low arrived (status ∷ statuses) =
    judge status (named_number sent low) (arrived +ℤ delta_of status) ∷ running judge sent ((low + 1) % 65536) (arrived +ℤ delta_of status) statuses

-- the answer, with no promise of room
abbrev pub settled : Judged → Judged
settled j = record j { received = bare j.received.items }

-- ---- which slots are not credited

abbrev pub is_uncredited : Slot → Bool
is_uncredited s = not s.credited

-- 1 where there is a slot that is not credited
abbrev pub uncredited_in : Option Slot → ℕ
uncredited_in None = 0
uncredited_in (Some s) = cond (is_uncredited s) 1 0

-- ---- marks

-- a slot after a status that names it
abbrev pub marked : Status → Slot → Slot
marked status s =
    if is_received status then record { packet = s.packet; credited = true; missed = s.missed }
    else record { packet = s.packet; credited = s.credited; missed = true }

abbrev pub marked_if : Bool → Status → Slot → Slot
marked_if named status s = if named then marked status s else s

abbrev pub is_number : Option ℕ → ℕ → Bool
is_number None n = false
is_number (Some m) n = m == n

-- the slot of packet n after these statuses
abbrev pub all_marks : ℕ → ℕ → List Status → ℕ → Slot → Slot
all_marks sent low [] n s = s
all_marks sent low (status ∷ statuses) n s = all_marks sent ((low + 1) % 65536) statuses n (marked_if (is_number (named_number sent low) n) status s)
