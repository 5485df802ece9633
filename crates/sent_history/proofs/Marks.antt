-- The marks of a report on a slot, against the verdicts on its statuses.
use Rattle.std.proofs.Common.{◌≡◌, ℕ, ℤ, ◌+◌, ◌%◌, ◌+ℤ◌, Bool, true, false, not, ◌&&◌, ◌||◌, inl, inr, cond, List, [], ◌∷◌, Option, Some, refl, ap, sym, ◌∙◌}
use Rattle.std.proofs.lemmas.Bool.{cases_Bool}
use Rattle.gcc_units.specs.Unwrapping.{named_number}
use Rattle.twcc_report.specs.declared.report.Status.{Status}
use Rattle.twcc_report.specs.declared.report.Status.TheVariants.{NotReceived, Small, Large}
use Rattle.sent_history.specs.declared.slot.Outgoing.{Outgoing}
use Rattle.sent_history.specs.declared.slot.Slot.{Slot}
use Rattle.sent_history.specs.declared.slot.Verdict.{Verdict}
use Rattle.sent_history.specs.Crediting.{Account, has, is_received, delta_of, verdict, kept_packet, credits_in, missing_numbers}
use Rattle.sent_history.specs.Judging.{running, marked, marked_if, is_number, all_marks}
use Rattle.sent_history.proofs.Numbers.{numbers, credits_it, misses_it, or_false, credits_more, misses_more, others, own}

-- ---- truth values

or_assoc : (a b c : Bool) → ((a || b) || c) ≡ (a || (b || c))
or_assoc true b c = refl
or_assoc false b c = refl

bool_credit : (c s r : Bool) → (c ≡ true → s ≡ true) → cond r true s ≡ (s || (not c && r))
bool_credit true true true h = refl
bool_credit true true false h = refl
bool_credit true false r h = let e : false ≡ true = h refl in cc
bool_credit false true true h = refl
bool_credit false true false h = refl
bool_credit false false true h = refl
bool_credit false false false h = refl

bool_miss : (m s r : Bool) → (m ≡ true → s ≡ true) → cond r s true ≡ (s || (not r && not m))
bool_miss m true true h = refl
bool_miss m false true h = refl
bool_miss m true false h = refl
bool_miss true false false h = let e : false ≡ true = h refl in cc
bool_miss false false false h = refl

-- ---- one status

marked_credited : (status : Status) (s : Slot) → (marked status s).credited ≡ cond (is_received status) true s.credited
marked_credited NotReceived s = refl
marked_credited (Small d) s = refl
marked_credited (Large d) s = refl

marked_missed : (status : Status) (s : Slot) → (marked status s).missed ≡ cond (is_received status) s.missed true
marked_missed NotReceived s = refl
marked_missed (Small d) s = refl
marked_missed (Large d) s = refl

marked_packet : (b : Bool) (status : Status) (s : Slot) → (marked_if b status s).packet ≡ s.packet
marked_packet false status s = refl
marked_packet true NotReceived s = refl
marked_packet true (Small d) s = refl
marked_packet true (Large d) s = refl

one_credit : (a : Account) (status : Status) (o : Option ℕ) (arrived : ℤ) (n : ℕ) (p : Outgoing) (s : Slot) → kept_packet a.packets n ≡ Some p
    → (has a.credited n ≡ true → s.credited ≡ true)
    → (marked_if (is_number o n) status s).credited ≡ (s.credited || credits_it (verdict a status o arrived) n)
one_credit a status o arrived n p s kept mine = elim (cases_Bool (is_number o n)) [
  | inl hit ↦ rw (hit, (own a status o arrived n p hit kept).0) (marked_credited status s ∙ bool_credit (has a.credited n) s.credited (is_received status) mine)
  | inr miss ↦ rw (miss, (others a status o arrived n miss).0) (sym (or_false s.credited))
]

one_miss : (a : Account) (status : Status) (o : Option ℕ) (arrived : ℤ) (n : ℕ) (p : Outgoing) (s : Slot) → kept_packet a.packets n ≡ Some p
    → has a.credited n ≡ false → (has a.missed n ≡ true → s.missed ≡ true)
    → (marked_if (is_number o n) status s).missed ≡ (s.missed || misses_it (verdict a status o arrived) n)
one_miss a status o arrived n p s kept fresh mine = elim (cases_Bool (is_number o n)) [
  | inl hit ↦ rw (hit, (own a status o arrived n p hit kept).1, fresh)
      (marked_missed status s ∙ bool_miss (has a.missed n) s.missed (is_received status) mine)
  | inr miss ↦ rw (miss, (others a status o arrived n miss).1) (sym (or_false s.missed))
]

-- ---- all statuses

pub packet_law : (sent low : ℕ) (statuses : List Status) (n : ℕ) (s : Slot) → (all_marks sent low statuses n s).packet ≡ s.packet
packet_law sent low [] n s = refl
packet_law sent low (status ∷ statuses) n s =
    let b : Bool = is_number (named_number sent low) n in
    packet_law sent ((low + 1) % 65536) statuses n (marked_if b status s) ∙ marked_packet b status s

pub credit_law : (a : Account) (sent low : ℕ) (arrived : ℤ) (statuses : List Status) (n : ℕ) (p : Outgoing) (s : Slot) → kept_packet a.packets n ≡ Some p
    → (has a.credited n ≡ true → s.credited ≡ true)
    → (all_marks sent low statuses n s).credited ≡ (s.credited || has (numbers (credits_in (running (verdict a) sent low arrived statuses))) n)
credit_law a sent low arrived [] n p s kept mine = sym (or_false s.credited)
credit_law a sent low arrived (status ∷ statuses) n p s kept mine =
    let o : Option ℕ = named_number sent low in
    let then : ℤ = arrived +ℤ delta_of status in
    let v : Verdict = verdict a status o then in
    let vs : List Verdict = running (verdict a) sent ((low + 1) % 65536) then statuses in
    let t : Slot = marked_if (is_number o n) status s in
    let one : t.credited ≡ (s.credited || credits_it v n) = one_credit a status o then n p s kept mine in
    let more = credit_law a sent ((low + 1) % 65536) then statuses n p t kept (λ h. one ∙ ap (λ b. b || credits_it v n) (mine h)) in
    more
    ∙ ap (λ b. b || has (numbers (credits_in vs)) n) one
    ∙ or_assoc s.credited (credits_it v n) (has (numbers (credits_in vs)) n)
    ∙ ap (λ b. s.credited || b) (sym (credits_more v vs n))

pub miss_law : (a : Account) (sent low : ℕ) (arrived : ℤ) (statuses : List Status) (n : ℕ) (p : Outgoing) (s : Slot) → kept_packet a.packets n ≡ Some p
    → has a.credited n ≡ false → (has a.missed n ≡ true → s.missed ≡ true)
    → (all_marks sent low statuses n s).missed ≡ (s.missed || has (missing_numbers (running (verdict a) sent low arrived statuses)) n)
miss_law a sent low arrived [] n p s kept fresh mine = sym (or_false s.missed)
miss_law a sent low arrived (status ∷ statuses) n p s kept fresh mine =
    let o : Option ℕ = named_number sent low in
    let then : ℤ = arrived +ℤ delta_of status in
    let v : Verdict = verdict a status o then in
    let vs : List Verdict = running (verdict a) sent ((low + 1) % 65536) then statuses in
    let t : Slot = marked_if (is_number o n) status s in
    let one : t.missed ≡ (s.missed || misses_it v n) = one_miss a status o then n p s kept fresh mine in
    let more = miss_law a sent ((low + 1) % 65536) then statuses n p t kept fresh (λ h. one ∙ ap (λ b. b || misses_it v n) (mine h)) in
    more
    ∙ ap (λ b. b || has (missing_numbers vs) n) one
    ∙ or_assoc s.missed (misses_it v n) (has (missing_numbers vs) n)
    ∙ ap (λ b. s.missed || b) (sym (misses_more v vs n))
