-- What a resender holds, one packet or one NACK more.
use Rattle.std.proofs.Common.{◌≡◌, ℕ, ◌+◌, ◌-◌, ◌<◌, ◌≤◌, ◌==◌, inl, inr, true, false, cond, List, [], ◌∷◌, ◌++◌, length, drop, get_or, set, sum, Option, Some, None, refl, sym, ap, subst, ◌∙◌, arith, length-append, length-set, eq-eqb}
use Rattle.std.proofs.lemmas.List.{drop-set-add, get_or-set_same, get_or-set_other}
use Rattle.std.proofs.lemmas.List.Sums.{fold-append, sum_by-set, sum_by-append}
use Rattle.std.proofs.lemmas.Bool.{cases_eq, ne_eqb}
use Rattle.gcc_units.proofs.Walk.{each_by-push}
use Rattle.rtp_wire.specs.Place.{field16}
use Rattle.circular_buffer.specs.Buffer.{keep_last}
use Rattle.nack_rtx.specs.declared.TheConstants.{MOST_STORED}
use Rattle.nack_rtx.specs.declared.resender.RtxSettings.{RtxSettings}
use Rattle.nack_rtx.specs.declared.resender.Verdict.{Verdict}
use Rattle.nack_rtx.specs.declared.resender.Verdict.TheVariants.{Unknown, Spent, Again}
use Rattle.nack_rtx.specs.Resending.{Event, kept, Account, nothing, last_from, verdict, after, left, verdicts, after_event, keeping, account, is_kept}
use Rattle.nack_rtx.specs.Answering.{counted, more_resends}
use Rattle.nack_rtx.specs.Held.{Held}
use Rattle.nack_rtx.specs.Keeping.{Keeps, StandsFor, with_counts}
use Rattle.nack_rtx.proofs.Account.{newest-push, last-push, Counts, verdict_counts}

-- ---- the account of one event more

pub account-push : (s : RtxSettings) (events : List Event) (e : Event) → account s (events ++ e ∷ []) ≡ after_event s (account s events) e
unfolding account
account-push s events e = fold-append (after_event s) nothing events (e ∷ [])

pub account-none : (s : RtxSettings) → account s [] ≡ nothing
unfolding account
account-none s = refl

-- ---- a packet

-- the places with one changed
places_kept : (places : List (Option ℕ)) (packets : List (List ℕ)) (p : List ℕ) (number count : ℕ) → length places ≡ 65536 → number < 65536 → number ≡ field16 2 p → count ≡ length packets
    → ((seq : ℕ) → seq < 65536 → get_or places seq None ≡ last_from seq 0 packets)
    → (seq : ℕ) → seq < 65536 → get_or (set places number (Some count)) seq None ≡ last_from seq 0 (packets ++ p ∷ [])
places_kept places packets p number count len small is c were seq lt = elim (cases_eq number seq) [
  | inl same ↦
      let at : 0 + length packets ≡ count = omega (arith, c) in
      let yes : (field16 2 p == seq) ≡ true = eq-eqb (field16 2 p) seq (sym is ∙ same) in
      ap (λ k. get_or (set places number (Some count)) k None) (sym same)
      ∙ get_or-set_same places number (Some count) None (omega (arith, len))
      ∙ ap Some (sym at)
      ∙ ap (λ b. cond b (Some (0 + length packets)) (last_from seq 0 packets)) (sym yes)
      ∙ sym (last-push seq 0 packets p)
  | inr other ↦
      let no : (field16 2 p == seq) ≡ false = ne_eqb (field16 2 p) seq (λ e. other (is ∙ e)) in
      get_or-set_other places number seq (Some count) None (λ e. other (sym e))
      ∙ were seq lt
      ∙ ap (λ b. cond b (Some (0 + length packets)) (last_from seq 0 packets)) (sym no)
      ∙ sym (last-push seq 0 packets p)
]

pub keeps_kept : (h now : Held) (a : Account) (p : List ℕ) (number : ℕ) → Keeps h a → length h.places ≡ 65536 → number < 65536 → number ≡ field16 2 p
    → now.packets ≡ keep_last MOST_STORED (h.packets ++ p ∷ [])
    → now.counts ≡ keep_last MOST_STORED (h.counts ++ 0 ∷ [])
    → now.places ≡ set h.places number (Some h.kept) → now.kept ≡ h.kept + 1 → now.resends ≡ h.resends
    → Keeps now (keeping a p)
keeps_kept h now a p number keep len small is packets counts places count resends = record {
  packets = packets ∙ ap (λ (xs : List (List ℕ)). keep_last MOST_STORED (xs ++ p ∷ [])) keep.packets ∙ newest-push MOST_STORED a.packets p;
  counts = counts ∙ ap (λ (xs : List ℕ). keep_last MOST_STORED (xs ++ 0 ∷ [])) keep.counts ∙ newest-push MOST_STORED a.resent 0;
  each = omega (arith, length-append a.resent (0 ∷ []), length-append a.packets (p ∷ []), keep.each);
  places = λ seq lt. ap (λ (xs : List (Option ℕ)). get_or xs seq None) places
      ∙ places_kept h.places a.packets p number h.kept len small is keep.kept keep.places seq lt;
  kept = omega (arith, length-append a.packets (p ∷ []), keep.kept, count);
  resends = resends ∙ keep.resends ∙ sym (sum_by-append (λ n. n) a.resent (0 ∷ []) ∙ omega arith);
}

pub stands_not : (h : Held) (events : List Event) (bytes : List ℕ) → is_kept h.settings bytes ≡ false → StandsFor h events → StandsFor h (events ++ kept bytes ∷ [])
stands_not h events bytes refused stands =
    subst (Keeps h) (ap (λ b. cond b (keeping (account h.settings events) bytes) (account h.settings events)) (sym refused) ∙ sym (account-push h.settings events (kept bytes))) stands

pub stands_kept : (h now : Held) (events : List Event) (bytes : List ℕ) (number : ℕ) → StandsFor h events → is_kept h.settings bytes ≡ true → now.settings ≡ h.settings
    → length h.places ≡ 65536 → number < 65536 → number ≡ field16 2 bytes
    → now.packets ≡ keep_last MOST_STORED (h.packets ++ bytes ∷ [])
    → now.counts ≡ keep_last MOST_STORED (h.counts ++ 0 ∷ [])
    → now.places ≡ set h.places number (Some h.kept) → now.kept ≡ h.kept + 1 → now.resends ≡ h.resends
    → StandsFor now (events ++ kept bytes ∷ [])
stands_kept h now events bytes number stands taken same len small is packets counts places count resends =
    let s : RtxSettings = h.settings in
    let e : keeping (account s events) bytes ≡ account now.settings (events ++ kept bytes ∷ []) =
    ap (λ b. cond b (keeping (account s events) bytes) (account s events)) (sym taken)
    ∙ sym (account-push s events (kept bytes))
    ∙ ap (λ (t : RtxSettings). account t (events ++ kept bytes ∷ [])) (sym same) in
    subst (Keeps now) e (keeps_kept h now (account s events) bytes number stands len small is packets counts places count resends)

-- ---- a number

pub left-push : (s : RtxSettings) (media : ℕ) (a : Account) (seqs : List ℕ) (seq : ℕ)
    → left s media a (seqs ++ seq ∷ []) ≡ after (left s media a seqs) (verdict s media (left s media a seqs) seq)
left-push s media a seqs seq = fold-append (λ (b : Account) (n : ℕ). after b (verdict s media b n)) a seqs (seq ∷ [])

pub verdicts-push : (s : RtxSettings) (media : ℕ) (a : Account) (seqs : List ℕ) (seq : ℕ)
    → verdicts s media a (seqs ++ seq ∷ []) ≡ verdicts s media a seqs ++ verdict s media (left s media a seqs) seq ∷ []
verdicts-push s media a seqs seq = each_by-push (λ before n. verdict s media (left s media a before) n) [] seqs seq

newest_set : (counts resent : List ℕ) (count place times : ℕ) → count ≡ length resent → count ≤ place + MOST_STORED → counts ≡ keep_last MOST_STORED resent
    → set counts (place - (count - MOST_STORED)) times ≡ keep_last MOST_STORED (set resent place times)
newest_set counts resent count place times c near is =
    let g : ℕ = count - MOST_STORED in
    let at : g + (place - g) ≡ place = omega arith in
    let len : length (set resent place times) - MOST_STORED ≡ g = omega (arith, length-set {A = ℕ}, c) in
    ap (λ (xs : List ℕ). set xs (place - g) times) (is ∙ ap (λ k. drop (k - MOST_STORED) resent) (sym c))
    ∙ sym (drop-set-add g resent (place - g) times)
    ∙ ap (λ k. drop g (set resent k times)) at
    ∙ ap (λ k. drop k (set resent place times)) (sym len)

pub keeps_after : (h : Held) (a : Account) (v : Verdict) (counts now : List ℕ) (resends later : ℕ) → Keeps (with_counts h counts resends) a → Counts a v
    → now ≡ counted (h.kept - MOST_STORED) counts v → later ≡ more_resends resends v
    → Keeps (with_counts h now later) (after a v)
keeps_after h a Unknown counts now resends later keep fit c r =
    record { packets = keep.packets; counts = c ∙ keep.counts; each = keep.each; places = keep.places; kept = keep.kept; resends = r ∙ keep.resends }
keeps_after h a Spent counts now resends later keep fit c r =
    record { packets = keep.packets; counts = c ∙ keep.counts; each = keep.each; places = keep.places; kept = keep.kept; resends = r ∙ keep.resends }
keeps_after h a (Again place times resend) counts now resends later keep fit c r =
    let more : sum (set a.resent place times) + get_or a.resent place 0 ≡ sum a.resent + times = sum_by-set (λ n. n) a.resent place times 0 (omega (arith, keep.each, fit.0)) in
    record {
      packets = keep.packets;
      counts = c ∙ newest_set counts a.resent h.kept place times (keep.kept ∙ sym keep.each) (omega (arith, keep.kept, fit.1)) keep.counts;
      each = omega (arith, length-set {A = ℕ}, keep.each);
      places = keep.places;
      kept = keep.kept;
      resends = omega (arith, more, r, keep.resends, fit.2);
    }

pub keeps_more : (h : Held) (s : RtxSettings) (media : ℕ) (a : Account) (seqs : List ℕ) (seq : ℕ) (v : Verdict) (counts now : List ℕ) (resends later : ℕ)
    → Keeps (with_counts h counts resends) (left s media a seqs) → v ≡ verdict s media (left s media a seqs) seq
    → now ≡ counted (h.kept - MOST_STORED) counts v → later ≡ more_resends resends v
    → Keeps (with_counts h now later) (left s media a (seqs ++ seq ∷ []))
keeps_more h s media a seqs seq v counts now resends later keep is c r =
    subst (Keeps (with_counts h now later)) (ap (after (left s media a seqs)) is ∙ sym (left-push s media a seqs seq))
    (keeps_after h (left s media a seqs) v counts now resends later keep
    (subst (Counts (left s media a seqs)) (sym is) (verdict_counts s media (left s media a seqs) seq)) c r)
