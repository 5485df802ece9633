-- What the kept slots say of the account.
use Rattle.std.proofs.Common.{◌≡◌, ℕ, ℤ, zero, suc, ◌+◌, ◌-◌, ◌%◌, ◌<◌, ◌≤◌, ◌+ℤ◌, ◌*ℤ◌, Bool, true, false, not, ◌||◌, cond, inl, inr, pos, List, [], ◌∷◌, ◌++◌, length, drop, map, get_or, slice_index_or, Option, Some, None, refl, ap, sym, ◌∙◌, subst, arith, length-append, length-drop}
use Rattle.std.specs.List.{fold, slice_get, enumerate_from, range_with_len}
use Rattle.std.proofs.lemmas.Bool.{cases_lt, lt-ltb, le-ltb, lt-leb, le-leb}
use Rattle.std.proofs.lemmas.Option.{slice_get_cases, same_Some}
use Rattle.std.proofs.lemmas.List.{get_or_append_left, get_or-drop}
use Rattle.std.proofs.Math.Seq.{get_or-append_seam}
use Rattle.gcc_units.specs.Unwrapping.{named_number, unwrapped}
use Rattle.gcc_units.specs.declared.limits.TheConstants.{KEPT_PACKETS}
use Rattle.twcc_report.specs.Spelling.{Feedback}
use Rattle.twcc_report.specs.declared.report.Status.{Status}
use Rattle.sent_history.specs.declared.slot.Outgoing.{Outgoing}
use Rattle.sent_history.specs.declared.slot.Slot.{Slot}
use Rattle.sent_history.specs.declared.slot.Verdict.{Verdict}
use Rattle.sent_history.specs.Events.{Event, added, reported}
use Rattle.sent_history.specs.Crediting.{Account, start, has, delta_of, verdict_on, verdict_if, verdict, kept_packet, verdict_at, verdicts, number_at, arrival, credits_in, missing_numbers, after, account, is_outstanding}
use Rattle.sent_history.specs.Judging.{kept_slot, slot_verdict_if, slot_verdict, running, all_marks}
use Rattle.sent_history.specs.Laws.{kept_packet-near, kept_packet-past}
use Rattle.sent_history.specs.Kept.{Kept, IsSlot, Keeps}
use Rattle.sent_history.specs.Stretches.{Agrees}
use Rattle.sent_history.proofs.Numbers.{numbers, credits_it, misses_it, has_more, credits_more, misses_more, others, named_below}
use Rattle.sent_history.proofs.Marks.{packet_law, credit_law, miss_law}
use Rattle.sent_history.proofs.Places.{by_running}

-- ---- no packet that is still to be sent was judged

pub record IsSound (a : Account) : Type 0 where
  pub credited : (n : ℕ) → length a.packets ≤ n → has a.credited n ≡ false
  pub missed : (n : ℕ) → length a.packets ≤ n → has a.missed n ≡ false

ahead : (a : Account) (report : Feedback) (places : List (ℕ × Status)) (n : ℕ) → length a.packets ≤ n
    → (has (numbers (credits_in (map (verdict_at a report) places))) n ≡ false) × (has (missing_numbers (map (verdict_at a report) places)) n ≡ false)
ahead a report [] n past = (refl, refl)
ahead a report (placed ∷ places) n past =
    let o : Option ℕ = number_at a report.base placed.0 in
    let arrived : ℤ = arrival (unwrapped a.reference report.reference) report.statuses placed.0 in
    let v : Verdict = verdict_at a report placed in
    let vs : List Verdict = map (verdict_at a report) places in
    let one : (credits_it v n ≡ false) × (misses_it v n ≡ false) =
    others a placed.1 o arrived n (named_below (length a.packets) ((report.base + placed.0) % 65536) n past) in
    let more : (has (numbers (credits_in vs)) n ≡ false) × (has (missing_numbers vs) n ≡ false) = ahead a report places n past in (
      credits_more v vs n ∙ ap (λ b. b || has (numbers (credits_in vs)) n) one.0 ∙ more.0,
      misses_more v vs n ∙ ap (λ b. b || has (missing_numbers vs) n) one.1 ∙ more.1,
    )

sound_from : (a : Account) (events : List Event) → IsSound a → IsSound (fold after a events)
sound_from a [] sound = sound
sound_from a (added p ∷ events) sound =
    sound_from (after a (added p)) events (record {
      credited = λ n past. sound.credited n (omega (arith, past, length-append a.packets (p ∷ [])));
      missed = λ n past. sound.missed n (omega (arith, past, length-append a.packets (p ∷ [])));
    })
sound_from a (reported report ∷ events) sound =
    let vs : List Verdict = verdicts a report in
    sound_from (after a (reported report)) events (record {
      credited = λ n past. has_more a.credited (numbers (credits_in vs)) n ∙ ap (λ b. b || has (numbers (credits_in vs)) n) (sound.credited n past)
          ∙ (ahead a report (enumerate_from 0 report.statuses) n past).0;
      missed = λ n past. has_more a.missed (missing_numbers vs) n ∙ ap (λ b. b || has (missing_numbers vs) n) (sound.missed n past)
          ∙ (ahead a report (enumerate_from 0 report.statuses) n past).1;
    })

pub account_is_sound : (events : List Event) → IsSound (account events)
unfolding account
account_is_sound events = sound_from start events (record { credited = λ n past. refl; missed = λ n past. refl })

-- ---- which packets are kept

pub slot_there : (slots : List Slot) (sent n : ℕ) → sent - length slots ≤ n → kept_slot slots sent n ≡ slice_get slots (n - (sent - length slots))
unfolding kept_slot
slot_there slots sent n le = rw (le-ltb n (sent - length slots) le) refl

pub slot_gone : (slots : List Slot) (sent n : ℕ) → n < sent - length slots → kept_slot slots sent n ≡ None
unfolding kept_slot
slot_gone slots sent n lt = rw (lt-ltb n (sent - length slots) lt) refl

-- ---- the same verdicts

on_same : (c s t : Bool) (n : ℕ) (p : Outgoing) (status : Status) (arrived : ℤ) → (c ≡ false → s ≡ t)
    → verdict_on c s n p status arrived ≡ verdict_on c t n p status arrived
unfolding verdict_on
on_same true s t n p status arrived same = refl
on_same false s t n p status arrived same = ap (λ b. verdict_on false b n p status arrived) (same refl)

of_slot : (a : Account) (n : ℕ) (s : Slot) (status : Status) (arrived : ℤ) → IsSlot a n s
    → verdict_on s.credited s.missed n s.packet status arrived ≡ verdict_on (has a.credited n) (has a.missed n) n s.packet status arrived
of_slot a n s status arrived slot =
    ap (λ c. verdict_on c s.missed n s.packet status arrived) slot.credited
    ∙ on_same (has a.credited n) s.missed (has a.missed n) n s.packet status arrived (λ e. slot.missed (slot.credited ∙ e))

same_if : (h : Kept) (a : Account) (n : ℕ) (status : Status) (arrived : ℤ) → Keeps h a → n < length a.packets
    → slot_verdict_if n status arrived (kept_slot h.slots h.sent n) ≡ verdict_if a n status arrived (kept_packet a.packets n)
same_if h a n status arrived keep lt = elim (cases_lt n (h.sent - length h.slots)) [
  | inl before ↦ rw (slot_gone h.slots h.sent n before, kept_packet-past a.packets n (omega (arith, keep.sent, keep.window))) refl
  | inr from ↦ let k : ℕ = n - (h.sent - length h.slots) in
      elim ((slice_get_cases h.slots k).1) [
        | inl found ↦ let s : Slot = found.0 in
            let place : length a.packets - length h.slots + k ≡ n = omega (arith, keep.sent, keep.window) in
            let at_place : IsSlot a (length a.packets - length h.slots + k) (slice_index_or h.slots k s) = keep.slots k s found.1 in
            let at_n : IsSlot a n (slice_index_or h.slots k s) = subst (λ (m : ℕ). IsSlot a m (slice_index_or h.slots k s)) place at_place in
            let slot : IsSlot a n s = subst (λ (t : Slot). IsSlot a n t) found.3 at_n in
            rw (slot_there h.slots h.sent n from, found.2, kept_packet-near a.packets n (omega (arith, keep.sent, keep.window)), slot.packet) (of_slot a n s status arrived slot)
        | inr past ↦ absurd (omega (arith, keep.sent, keep.window, past.0))
      ]
]

some_below : (sent low n : ℕ) → named_number sent low ≡ Some n → n < sent
some_below sent low n e = elim (cases_lt low sent) [
  | inl lt ↦ let m : ℕ = sent - 1 - (sent - 1 - low) % 65536 in
      let is : named_number sent low ≡ Some m = rw (lt-ltb low sent lt) refl in
      let same : m ≡ n = same_Some m n (sym is ∙ e) in
      omega (arith, same)
  | inr le ↦ let is : named_number sent low ≡ None = rw (le-ltb low sent le) refl in cc
]

same_verdict : (h : Kept) (a : Account) (o : Option ℕ) (status : Status) (arrived : ℤ) → Keeps h a → ((n : ℕ) → o ≡ Some n → n < length a.packets)
    → slot_verdict h.slots h.sent status o arrived ≡ verdict a status o arrived
unfolding slot_verdict verdict
same_verdict h a None status arrived keep below = refl
same_verdict h a (Some n) status arrived keep below = same_if h a n status arrived keep (below n refl)

pub same_running : (h : Kept) (a : Account) (low : ℕ) (arrived : ℤ) (statuses : List Status) → Keeps h a
    → running (slot_verdict h.slots h.sent) h.sent low arrived statuses ≡ running (verdict a) (length a.packets) low arrived statuses
same_running h a low arrived [] keep = refl
same_running h a low arrived (status ∷ statuses) keep =
    let then : ℤ = arrived +ℤ delta_of status in
    let below : (n : ℕ) → named_number h.sent low ≡ Some n → n < length a.packets =
    λ n e. some_below (length a.packets) low n (ap (λ m. named_number m low) (sym keep.sent) ∙ e) in
    let first : slot_verdict h.slots h.sent status (named_number h.sent low) then ≡ verdict a status (named_number (length a.packets) low) then =
    same_verdict h a (named_number h.sent low) status then keep below ∙ ap (λ m. verdict a status (named_number m low) then) keep.sent in
    ap (λ (v : Verdict). v ∷ running (slot_verdict h.slots h.sent) h.sent ((low + 1) % 65536) then statuses) first
    ∙ ap (λ (vs : List Verdict). verdict a status (named_number (length a.packets) low) then ∷ vs) (same_running h a ((low + 1) % 65536) then statuses keep)

-- the verdicts by slots are the verdicts
pub same_verdicts : (h : Kept) (a : Account) (report : Feedback) → report.base < 65536 → Keeps h a
    → running (slot_verdict h.slots h.sent) h.sent report.base (pos 256 *ℤ unwrapped h.reference report.reference) report.statuses ≡ verdicts a report
same_verdicts h a report small keep =
    ap (λ z. running (slot_verdict h.slots h.sent) h.sent report.base (pos 256 *ℤ unwrapped z report.reference) report.statuses) keep.reference
    ∙ same_running h a report.base (pos 256 *ℤ unwrapped a.reference report.reference) report.statuses keep
    ∙ sym (by_running a report small)

-- ---- one more packet

get_front : (xs ys : List Outgoing) (n : ℕ) (p : Outgoing) → slice_get xs n ≡ Some p → slice_get (xs ++ ys) n ≡ Some p
get_front [] ys n p e = cc
get_front (x ∷ xs) ys zero p e = e
get_front (x ∷ xs) ys (suc n) p e = get_front xs ys n p e

get_seam : (xs : List Outgoing) (p : Outgoing) → slice_get (xs ++ p ∷ []) (length xs) ≡ Some p
get_seam [] p = refl
get_seam (x ∷ xs) p = get_seam xs p

stays : (a : Account) (p : Outgoing) (n : ℕ) (s : Slot) → IsSlot a n s → IsSlot (after a (added p)) n s
stays a p n s slot =
    record { packet = get_front a.packets (p ∷ []) n s.packet slot.packet; credited = slot.credited; missed = slot.missed }

abbrev pub unmarked : Outgoing → Slot
unmarked p = record { packet = p; credited = false; missed = false }

newest : (a : Account) (p : Outgoing) → IsSound a → IsSlot (after a (added p)) (length a.packets) (unmarked p)
newest a p sound =
    record {
      packet = get_seam a.packets p;
      credited = sym (sound.credited (length a.packets) (omega arith));
      missed = λ e. sym (sound.missed (length a.packets) (omega arith));
    }

-- the slot at a place of the longer window
placed : (h : Kept) (a : Account) (p : Outgoing) (g k : ℕ) (d : Slot) → IsSound a → Keeps h a → g ≡ length h.slots + 1 - KEPT_PACKETS
    → k < length (drop g h.slots ++ unmarked p ∷ [])
    → IsSlot (after a (added p)) (length a.packets + 1 - length (drop g h.slots ++ unmarked p ∷ []) + k) (get_or (drop g h.slots ++ unmarked p ∷ []) k d)
placed h a p g k d sound keep is lt =
    let old : List Slot = drop g h.slots in
    let l1 : length (old ++ unmarked p ∷ []) ≡ length old + 1 = length-append old (unmarked p ∷ []) in
    let l2 : length old ≡ length h.slots - g = length-drop g h.slots in
    elim (cases_lt k (length old)) [
      | inl left ↦ let n : length a.packets - length h.slots + (g + k) ≡ length a.packets + 1 - length (old ++ unmarked p ∷ []) + k =
          omega (arith, keep.window, is, l1, l2) in
          let e : get_or h.slots (g + k) d ≡ get_or (old ++ unmarked p ∷ []) k d =
          sym (get_or-drop g h.slots k d) ∙ sym (get_or_append_left old (unmarked p ∷ []) d k left) in
          let there : IsSlot a (length a.packets - length h.slots + (g + k)) (get_or h.slots (g + k) d) = keep.slots (g + k) d (omega (arith, is, l2)) in
          subst (λ (m : ℕ). IsSlot (after a (added p)) m (get_or (old ++ unmarked p ∷ []) k d)) n
          (subst (λ (s : Slot). IsSlot (after a (added p)) (length a.packets - length h.slots + (g + k)) s) e (stays a p _ _ there))
      | inr right ↦ let last : k ≡ length old = omega (arith, l1) in
          let n : length a.packets ≡ length a.packets + 1 - length (old ++ unmarked p ∷ []) + k = omega (arith, keep.window, is, l1, l2) in
          let e : unmarked p ≡ get_or (old ++ unmarked p ∷ []) k d =
          sym (get_or-append_seam old (unmarked p) [] d) ∙ ap (λ m. get_or (old ++ unmarked p ∷ []) m d) (sym last) in
          subst (λ (m : ℕ). IsSlot (after a (added p)) m (get_or (old ++ unmarked p ∷ []) k d)) n
          (subst (λ (s : Slot). IsSlot (after a (added p)) (length a.packets) s) e (newest a p sound))
    ]

keeps_window : (h : Kept) (a : Account) (p : Outgoing) (g : ℕ) → IsSound a → Keeps h a → g ≡ length h.slots + 1 - KEPT_PACKETS
    → Keeps (record { sent = h.sent + 1; slots = drop g h.slots ++ unmarked p ∷ []; reference = h.reference }) (after a (added p))
keeps_window h a p g sound keep is =
    let old : List Slot = drop g h.slots in
    let l1 : length (old ++ unmarked p ∷ []) ≡ length old + 1 = length-append old (unmarked p ∷ []) in
    let l2 : length old ≡ length h.slots - g = length-drop g h.slots in
    let l3 : length (a.packets ++ p ∷ []) ≡ length a.packets + 1 = length-append a.packets (p ∷ []) in
    record {
      sent = omega (arith, keep.sent, l3);
      window = omega (arith, keep.window, is, l1, l2, l3);
      slots = λ k d lt. subst (λ (m : ℕ). IsSlot (after a (added p)) (m - length (old ++ unmarked p ∷ []) + k) (get_or (old ++ unmarked p ∷ []) k d)) (sym l3)
          (placed h a p g k d sound keep is lt);
      reference = keep.reference;
    }

pub keeps_added : (h : Kept) (a : Account) (p : Outgoing) (slots : List Slot) → IsSound a → Keeps h a
    → slots ≡ drop (length h.slots + 1 - KEPT_PACKETS) h.slots ++ unmarked p ∷ []
    → Keeps (record { sent = h.sent + 1; slots = slots; reference = h.reference }) (after a (added p))
keeps_added h a p slots sound keep e =
    subst (λ (xs : List Slot). Keeps (record { sent = h.sent + 1; slots = xs; reference = h.reference }) (after a (added p))) (sym e)
    (keeps_window h a p (length h.slots + 1 - KEPT_PACKETS) sound keep refl)

-- ---- one more report

left_false : (a b : Bool) → (a || b) ≡ false → a ≡ false
left_false false b e = refl
left_false true b e = e

reported_slot : (a : Account) (report : Feedback) (n : ℕ) (s : Slot) → report.base < 65536 → length a.packets ≤ n + KEPT_PACKETS → IsSlot a n s
    → IsSlot (after a (reported report)) n (all_marks (length a.packets) report.base report.statuses n s)
reported_slot a report n s small near slot =
    let sent : ℕ = length a.packets in
    let arrived : ℤ = pos 256 *ℤ unwrapped a.reference report.reference in
    let vs : List Verdict = running (verdict a) sent report.base arrived report.statuses in
    let e : verdicts a report ≡ vs = by_running a report small in
    let kept : kept_packet a.packets n ≡ Some s.packet = kept_packet-near a.packets n near ∙ slot.packet in
    let t : Slot = all_marks sent report.base report.statuses n s in
    let credit : t.credited ≡ (s.credited || has (numbers (credits_in vs)) n) =
    credit_law a sent report.base arrived report.statuses n s.packet s kept (λ h. slot.credited ∙ h) in
    record {
      packet = slot.packet ∙ ap Some (sym (packet_law sent report.base report.statuses n s));
      credited = credit
          ∙ ap (λ b. b || has (numbers (credits_in vs)) n) slot.credited
          ∙ ap (λ (xs : List Verdict). has a.credited n || has (numbers (credits_in xs)) n) (sym e)
          ∙ sym (has_more a.credited (numbers (credits_in (verdicts a report))) n);
      missed = λ h. let was : s.credited ≡ false = left_false s.credited (has (numbers (credits_in vs)) n) (sym credit ∙ h) in
          let miss : t.missed ≡ (s.missed || has (missing_numbers vs) n) =
          miss_law a sent report.base arrived report.statuses n s.packet s kept (sym slot.credited ∙ was) (λ i. slot.missed was ∙ i) in
          miss
          ∙ ap (λ b. b || has (missing_numbers vs) n) (slot.missed was)
          ∙ ap (λ (xs : List Verdict). has a.missed n || has (missing_numbers xs) n) (sym e)
          ∙ sym (has_more a.missed (missing_numbers (verdicts a report)) n);
    }

agreeing : (a : Account) (n : ℕ) (s t : Slot) → Agrees s t → IsSlot a n t → IsSlot a n s
agreeing a n s t same slot = record {
  packet = slot.packet ∙ ap Some (sym same.packet);
  credited = same.credited ∙ slot.credited;
  missed = λ e. let f : t.credited ≡ false = sym same.credited ∙ e in same.missed f ∙ slot.missed f;
}

pub keeps_agreed : (h : Kept) (a : Account) (report : Feedback) (slots : List Slot) (reference : ℤ) → report.base < 65536 → Keeps h a
    → length slots ≡ length h.slots
    → ((k : ℕ) (d : Slot) → k < length h.slots
    → Agrees (slice_index_or slots k d) (all_marks h.sent report.base report.statuses (h.sent - length h.slots + k) (slice_index_or h.slots k d)))
    → reference ≡ unwrapped h.reference report.reference
    → Keeps (record { sent = h.sent; slots = slots; reference = reference }) (after a (reported report))
keeps_agreed h a report slots reference small keep len marks e =
    record {
      sent = keep.sent;
      window = len ∙ keep.window;
      slots = λ k d lt. let inside : k < length h.slots = omega (arith, len, lt) in
          let n : ℕ = length a.packets - length h.slots + k in
          let near : length a.packets ≤ n + KEPT_PACKETS = omega (arith, keep.window) in
          let s : Slot = slice_index_or h.slots k d in
          let mark : Agrees (slice_index_or slots k d) (all_marks (length a.packets) report.base report.statuses n s) =
          subst (λ (m : ℕ). Agrees (slice_index_or slots k d) (all_marks m report.base report.statuses (m - length h.slots + k) s)) keep.sent (marks k d inside) in
          let place : n ≡ length a.packets - length slots + k = ap (λ m. length a.packets - m + k) (sym len) in
          subst (λ (m : ℕ). IsSlot (after a (reported report)) m (slice_index_or slots k d)) place
          (agreeing (after a (reported report)) n _ _ mark (reported_slot a report n s small near (keep.slots k d inside)));
      reference = e ∙ ap (λ z. unwrapped z report.reference) keep.reference;
    }

pub agrees_same : (s t : Slot) → s ≡ t → Agrees s t
agrees_same s t e = record { packet = ap (λ (x : Slot). x.packet) e; credited = ap (λ (x : Slot). x.credited) e; missed = λ f. ap (λ (x : Slot). x.missed) e }

-- the marks, said of other names of the lists
pub agreed_of : (new old slots : List Slot) (sent base : ℕ) (given statuses : List Status) → old ≡ slots → given ≡ statuses
    → ((k : ℕ) (d : Slot) → k < length old → Agrees (slice_index_or new k d) (all_marks sent base given (sent - length old + k) (slice_index_or old k d)))
    → (k : ℕ) (d : Slot) → k < length slots → Agrees (slice_index_or new k d) (all_marks sent base statuses (sent - length slots + k) (slice_index_or slots k d))
agreed_of new old slots sent base given statuses eo es marks =
    subst (λ (xs : List Slot). (k : ℕ) (d : Slot) → k < length xs → Agrees (slice_index_or new k d) (all_marks sent base statuses (sent - length xs + k) (slice_index_or xs k d))) eo
    (subst (λ (ss : List Status). (k : ℕ) (d : Slot) → k < length old → Agrees (slice_index_or new k d) (all_marks sent base ss (sent - length old + k) (slice_index_or old k d))) es marks)

-- what the code judges, said of other names
pub judged_are : (h : Kept) (a : Account) (report : Feedback) (slots : List Slot) (first : ℤ) (statuses : List Status) → report.base < 65536 → Keeps h a
    → slots ≡ h.slots → first ≡ (pos 256 *ℤ unwrapped h.reference report.reference) → statuses ≡ report.statuses
    → running (slot_verdict slots h.sent) h.sent report.base first statuses ≡ verdicts a report
judged_are h a report slots first statuses small keep eo ef es = rw (eo, ef, es) (same_verdicts h a report small keep)

-- ---- how many are outstanding

abbrev counting : {X : Type 0} → (X → Bool) → ℕ → X → ℕ
counting q n x = n + cond (q x) 1 0

count_same : (q : ℕ → Bool) (slots : List Slot) (from acc : ℕ) → ((k : ℕ) (d : Slot) → k < length slots → not (slice_index_or slots k d).credited ≡ q (from + k))
    → fold (counting (λ (s : Slot). not s.credited)) acc slots ≡ fold (counting q) acc (range_with_len from (length slots))
count_same q [] from acc same = refl
count_same q (s ∷ slots) from acc same =
    let here : not s.credited ≡ q from = same 0 s (omega arith) ∙ ap q (omega arith) in
    ap (λ b. fold (counting (λ (t : Slot). not t.credited)) (acc + cond b 1 0) slots) here
    ∙ count_same q slots (from + 1) (acc + cond (q from) 1 0) (λ k d lt. same (suc k) d (omega arith) ∙ ap q (omega arith))

count_none : (q : ℕ → Bool) (n from acc : ℕ) → ((k : ℕ) → k < n → q (from + k) ≡ false) → fold (counting q) acc (range_with_len from n) ≡ acc
count_none q zero from acc none = refl
count_none q (suc n) from acc none =
    let here : q from ≡ false = ap q (omega arith) ∙ none 0 (omega arith) in
    ap (λ b. fold (counting q) (acc + cond b 1 0) (range_with_len (from + 1) n)) here
    ∙ count_none q n (from + 1) (acc + 0) (λ k lt. ap q (omega arith) ∙ none (suc k) (omega arith))
    ∙ omega arith

count_split : (q : ℕ → Bool) (n m from acc : ℕ) → fold (counting q) acc (range_with_len from (n + m)) ≡ fold (counting q) (fold (counting q) acc (range_with_len from n)) (range_with_len (from + n) m)
count_split q zero m from acc =
    let a : 0 + m ≡ m = omega arith in
    let b : from + 0 ≡ from = omega arith in
    rw (a, b) refl
count_split q (suc n) m from acc =
    let a : suc n + m ≡ suc (n + m) = omega arith in
    let b : from + suc n ≡ from + 1 + n = omega arith in
    rw (a, b) (count_split q n m (from + 1) (acc + cond (q from) 1 0))

out_of_window : (a : Account) (n : ℕ) → n + KEPT_PACKETS < length a.packets → is_outstanding a n ≡ false
out_of_window a n lt = rw (lt-leb (length a.packets) (n + KEPT_PACKETS) lt) refl

in_window : (a : Account) (n : ℕ) → length a.packets ≤ n + KEPT_PACKETS → not (has a.credited n) ≡ is_outstanding a n
in_window a n le = rw (le-leb (length a.packets) (n + KEPT_PACKETS) le) refl

pub outstanding_are : (h : Kept) (a : Account) → Keeps h a
    → fold (counting (λ (s : Slot). not s.credited)) 0 h.slots ≡ fold (counting (is_outstanding a)) 0 (range_with_len 0 (length a.packets))
outstanding_are h a keep =
    let q : ℕ → Bool = is_outstanding a in
    let first : ℕ = length a.packets - length h.slots in
    let whole : first + length h.slots ≡ length a.packets = omega (arith, keep.window) in
    count_same q h.slots first 0 (λ k d lt. ap not (keep.slots k d lt).credited ∙ in_window a (first + k) (omega (arith, keep.window)))
    ∙ ap (λ m. fold (counting q) 0 (range_with_len m (length h.slots))) (omega arith)
    ∙ ap (λ m. fold (counting q) m (range_with_len (0 + first) (length h.slots))) (sym (count_none q first 0 0 (λ k lt. ap q (omega arith) ∙ out_of_window a k (omega (arith, keep.window)))))
    ∙ sym (count_split q first (length h.slots) 0 0)
    ∙ ap (λ m. fold (counting q) 0 (range_with_len 0 m)) whole
