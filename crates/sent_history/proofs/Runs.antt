-- The credits of one status: how many, and when they arrived.
use Rattle.std.proofs.Common.{◌≡◌, ℕ, ℤ, neg_ℤ, ◌≤ℤ◌, Bool, true, false, List, [], ◌∷◌, ◌++◌, length, cond, ◌≤◌, Option, Some, None, All, ap, ◌∙◌, arith, append-nil}
use Rattle.std.proofs.lemmas.List.Elements.{All-append, All-nil, All-cons}
use Rattle.std.proofs.lemmas.Grind.{flat_map-append}
use Rattle.gcc_units.specs.declared.limits.TheConstants.{GREATEST_ARRIVAL}
use Rattle.gcc_units.specs.declared.shared_types.Credit.{Credit}
use Rattle.twcc_report.specs.declared.report.Status.{Status}
use Rattle.twcc_report.specs.declared.report.Status.TheVariants.{NotReceived, Small, Large}
use Rattle.sent_history.specs.declared.slot.Outgoing.{Outgoing}
use Rattle.sent_history.specs.declared.slot.Slot.{Slot}
use Rattle.sent_history.specs.declared.slot.Verdict.{Verdict}
use Rattle.sent_history.specs.Crediting.{is_received, verdict_on, credit_for, credit_in, credits_in, ArrivesInRange}
use Rattle.sent_history.specs.Judging.{kept_slot, slot_verdict_if, slot_verdict}

InRange : ℤ → Type 0
InRange z = (neg_ℤ GREATEST_ARRIVAL ≤ℤ z) × (z ≤ℤ GREATEST_ARRIVAL)

on_in_range : (c s : Bool) (n : ℕ) (p : Outgoing) (status : Status) (arrived : ℤ) → InRange arrived → All ArrivesInRange (credit_in (verdict_on c s n p status arrived))
unfolding verdict_on InRange
on_in_range true s n p status arrived range = All-nil ArrivesInRange
on_in_range false true n p NotReceived arrived range = All-nil ArrivesInRange
on_in_range false false n p NotReceived arrived range = All-nil ArrivesInRange
on_in_range false s n p (Small d) arrived range = All-cons ArrivesInRange (credit_for n p arrived) [] (record { low = range.0; high = range.1 }) (All-nil ArrivesInRange)
on_in_range false s n p (Large d) arrived range = All-cons ArrivesInRange (credit_for n p arrived) [] (record { low = range.0; high = range.1 }) (All-nil ArrivesInRange)

if_in_range : (n : ℕ) (status : Status) (arrived : ℤ) (o : Option Slot) → InRange arrived → All ArrivesInRange (credit_in (slot_verdict_if n status arrived o))
if_in_range n status arrived None range = All-nil ArrivesInRange
if_in_range n status arrived (Some s) range = on_in_range s.credited s.missed n s.packet status arrived range

of_in_range : (slots : List Slot) (sent : ℕ) (status : Status) (o : Option ℕ) (arrived : ℤ) → InRange arrived → All ArrivesInRange (credit_in (slot_verdict slots sent status o arrived))
unfolding slot_verdict
of_in_range slots sent status None arrived range = All-nil ArrivesInRange
of_in_range slots sent status (Some n) arrived range = if_in_range n status arrived (kept_slot slots sent n) range

pub still_in_range : (slots : List Slot) (sent : ℕ) (status : Status) (o : Option ℕ) (arrived : ℤ) (before : List Verdict) (v : Verdict)
    → v ≡ slot_verdict slots sent status o arrived → neg_ℤ GREATEST_ARRIVAL ≤ℤ arrived → arrived ≤ℤ GREATEST_ARRIVAL
    → All ArrivesInRange (credits_in before) → All ArrivesInRange (credits_in (before ++ v ∷ []))
unfolding InRange
still_in_range slots sent status o arrived before v e low high so_far =
    let one : All ArrivesInRange (credit_in v) = rw e (of_in_range slots sent status o arrived (low, high)) in
    let more : credits_in (before ++ v ∷ []) ≡ credits_in before ++ credit_in v =
    flat_map-append credit_in before (v ∷ []) ∙ ap (λ (xs : List Credit). credits_in before ++ xs) (append-nil (credit_in v)) in
    rw more (All-append ArrivesInRange (credits_in before) (credit_in v) so_far one)

-- ---- room for the credits

abbrev pub bit : Bool → ℕ
bit b = cond b 1 0

few_on : (c s : Bool) (n : ℕ) (p : Outgoing) (status : Status) (arrived : ℤ) → length (credit_in (verdict_on c s n p status arrived)) ≤ bit (is_received status)
unfolding verdict_on
few_on true s n p status arrived = omega arith
few_on false true n p NotReceived arrived = omega arith
few_on false false n p NotReceived arrived = omega arith
few_on false s n p (Small d) arrived = omega arith
few_on false s n p (Large d) arrived = omega arith

few_if : (n : ℕ) (status : Status) (arrived : ℤ) (o : Option Slot) → length (credit_in (slot_verdict_if n status arrived o)) ≤ bit (is_received status)
few_if n status arrived None = omega arith
few_if n status arrived (Some s) = few_on s.credited s.missed n s.packet status arrived

-- only a status that says received credits
pub few_credits : (slots : List Slot) (sent : ℕ) (status : Status) (o : Option ℕ) (arrived : ℤ) → length (credit_in (slot_verdict slots sent status o arrived)) ≤ bit (is_received status)
unfolding slot_verdict
few_credits slots sent status None arrived = omega arith
few_credits slots sent status (Some n) arrived = few_if n status arrived (kept_slot slots sent n)
