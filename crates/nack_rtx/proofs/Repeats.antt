-- How often packets are sent again.
use Rattle.std.proofs.Common.{◌≡◌, ℕ, zero, suc, ◌+◌, ◌*◌, ◌<◌, ◌≤◌, inl, inr, Bool, true, false, cond, List, [], ◌∷◌, ◌++◌, length, get_or, set, sum, fold, All, refl, sym, ap, subst, ◌∙◌, arith, append_assoc, append-nil, length-set, length-append}
use Rattle.std.specs.List.{flat_map}
use Rattle.std.proofs.lemmas.Bool.{cases_eq}
use Rattle.std.proofs.lemmas.List.{get_or-set_same, get_or-set_other}
use Rattle.std.proofs.lemmas.List.Sums.{sum_by-set, sum_by-cons}
use Rattle.std.proofs.Math.Nat.{mul-suc}
use Rattle.gcc_units.specs.Walk.{each_by}
use Rattle.nack_rtx.specs.declared.resender.RtxSettings.{RtxSettings}
use Rattle.nack_rtx.specs.declared.resender.Resend.{Resend}
use Rattle.nack_rtx.specs.declared.resender.Verdict.{Verdict}
use Rattle.nack_rtx.specs.declared.resender.Verdict.TheVariants.{Unknown, Spent, Again}
use Rattle.nack_rtx.specs.Resending.{Event, kept, asked, Account, nothing, verdict, after, left, verdicts, resend_in, keeping, is_kept, after_event, account}
use Rattle.nack_rtx.proofs.Account.{Counts, verdict_counts}
use Rattle.nack_rtx.proofs.Kept.{left-push}
use Rattle.nack_rtx.proofs.Yields.{again_if}

-- each packet has a count, which is no more than may be
pub record IsSound (s : RtxSettings) (a : Account) : Type 0 where
  pub each : length a.resent ≡ length a.packets
  pub few : (k : ℕ) → get_or a.resent k 0 ≤ s.repeats

-- what a verdict may count
abbrev Fits : RtxSettings → Account → Verdict → Type 0
Fits s a Unknown = Unit {0}
Fits s a Spent = Unit {0}
Fits s a (Again place times resend) = (place < length a.packets) × (times ≡ get_or a.resent place 0 + 1) × (times ≤ s.repeats)

fits_so : (s : RtxSettings) (media : ℕ) (a : Account) (seq : ℕ) (v : Verdict) → verdict s media a seq ≡ v → Counts a v → Fits s a v
fits_so s media a seq Unknown is c = tt
fits_so s media a seq Spent is c = tt
fits_so s media a seq (Again place times resend) is c = (c.0, c.2, omega (arith, c.2, (again_if s media a seq place times resend is).unspent))

fits : (s : RtxSettings) (media : ℕ) (a : Account) (seq : ℕ) → Fits s a (verdict s media a seq)
fits s media a seq = fits_so s media a seq (verdict s media a seq) refl (verdict_counts s media a seq)

few_set : (xs : List ℕ) (most place times : ℕ) → place < length xs → times ≤ most → ((k : ℕ) → get_or xs k 0 ≤ most) → (k : ℕ) → get_or (set xs place times) k 0 ≤ most
few_set xs most place times inside le few k = elim (cases_eq k place) [
  | inl same ↦ subst (λ n. n ≤ most) (sym (ap (λ i. get_or (set xs place times) i 0) same ∙ get_or-set_same xs place times 0 inside)) le
  | inr other ↦ subst (λ n. n ≤ most) (sym (get_or-set_other xs place k times 0 other)) (few k)
]

sound_after : (s : RtxSettings) (a : Account) (v : Verdict) → IsSound s a → Fits s a v → IsSound s (after a v)
sound_after s a Unknown sound fit = sound
sound_after s a Spent sound fit = sound
sound_after s a (Again place times resend) sound fit = record {
  each = omega (arith, length-set {A = ℕ}, sound.each);
  few = few_set a.resent s.repeats place times (omega (arith, sound.each, fit.0)) fit.2 sound.few;
}

pub sound_left : (s : RtxSettings) (media : ℕ) (a : Account) (seqs : List ℕ) → IsSound s a → IsSound s (left s media a seqs)
sound_left s media a [] sound = sound
sound_left s media a (seq ∷ seqs) sound = sound_left s media (after a (verdict s media a seq)) seqs (sound_after s a (verdict s media a seq) sound (fits s media a seq))

none_more : (xs : List ℕ) (k : ℕ) → get_or (xs ++ 0 ∷ []) k 0 ≡ get_or xs k 0
none_more [] zero = refl
none_more [] (suc k) = refl
none_more (x ∷ xs) zero = refl
none_more (x ∷ xs) (suc k) = none_more xs k

sound_keeping : (s : RtxSettings) (a : Account) (bytes : List ℕ) → IsSound s a → IsSound s (keeping a bytes)
sound_keeping s a bytes sound = record {
  each = omega (arith, length-append a.resent (0 ∷ []), length-append a.packets (bytes ∷ []), sound.each);
  few = λ k. subst (λ n. n ≤ s.repeats) (sym (none_more a.resent k)) (sound.few k);
}

sound_if : (s : RtxSettings) (a : Account) (bytes : List ℕ) (b : Bool) → IsSound s a → IsSound s (cond b (keeping a bytes) a)
sound_if s a bytes true sound = sound_keeping s a bytes sound
sound_if s a bytes false sound = sound

sound_event : (s : RtxSettings) (a : Account) (e : Event) → IsSound s a → IsSound s (after_event s a e)
sound_event s a (kept bytes) sound = sound_if s a bytes (is_kept s bytes) sound
sound_event s a (asked media seqs) sound = sound_left s media a seqs sound

sound_fold : (s : RtxSettings) (a : Account) (events : List Event) → IsSound s a → IsSound s (fold (after_event s) a events)
sound_fold s a [] sound = sound
sound_fold s a (e ∷ es) sound = sound_fold s (after_event s a e) es (sound_event s a e sound)

pub sound : (s : RtxSettings) (events : List Event) → IsSound s (account s events)
unfolding account
sound s events = sound_fold s nothing events (record { each = refl; few = λ k. omega arith })

-- ---- all together

pub sum_few : (xs : List ℕ) (most : ℕ) → ((k : ℕ) → get_or xs k 0 ≤ most) → sum xs ≤ most * length xs
sum_few [] most few = omega arith
sum_few (x ∷ xs) most few =
    let rest : sum xs ≤ most * length xs = sum_few xs most (λ k. few (suc k)) in
    let here : x ≤ most = few 0 in
    omega (arith, sum_by-cons (λ (n : ℕ). n) x xs, rest, here, mul-suc most (length xs))

more_resends : (a : Account) (v : Verdict) → length a.resent ≡ length a.packets → Counts a v → sum (after a v).resent ≡ sum a.resent + length (resend_in v)
more_resends a Unknown each c = omega arith
more_resends a Spent each c = omega arith
more_resends a (Again place times resend) each c =
    let more : sum (set a.resent place times) + get_or a.resent place 0 ≡ sum a.resent + times = sum_by-set (λ n. n) a.resent place times 0 (omega (arith, each, c.0)) in
    omega (arith, more, c.2)

each_after : (a : Account) (v : Verdict) → length a.resent ≡ length a.packets → length (after a v).resent ≡ length (after a v).packets
each_after a Unknown each = each
each_after a Spent each = each
each_after a (Again place times resend) each = omega (arith, length-set {A = ℕ}, each)

each_left : (s : RtxSettings) (media : ℕ) (a : Account) (seqs : List ℕ) → length a.resent ≡ length a.packets → length (left s media a seqs).resent ≡ length (left s media a seqs).packets
each_left s media a [] each = each
each_left s media a (seq ∷ seqs) each = each_left s media (after a (verdict s media a seq)) seqs (each_after a (verdict s media a seq) each)

abbrev by_left : RtxSettings → ℕ → Account → List ℕ → ℕ → Verdict
by_left s media a before seq = verdict s media (left s media a before) seq

counted : (s : RtxSettings) (media : ℕ) (a : Account) (before seqs : List ℕ) → length a.resent ≡ length a.packets
    → sum (left s media a (before ++ seqs)).resent ≡ sum (left s media a before).resent + length (flat_map resend_in (each_by (by_left s media a) before seqs))
counted s media a before [] each =
    let e : sum (left s media a before).resent ≡ sum (left s media a before).resent + 0 = omega arith in
    ap (λ (xs : List ℕ). sum (left s media a xs).resent) (append-nil before) ∙ e
counted s media a before (seq ∷ seqs) each =
    let b : Account = left s media a before in
    let v : Verdict = verdict s media b seq in
    let rest : List Resend = flat_map resend_in (each_by (by_left s media a) (before ++ seq ∷ []) seqs) in
    let more : sum (left s media a ((before ++ seq ∷ []) ++ seqs)).resent ≡ sum (left s media a (before ++ seq ∷ [])).resent + length rest = counted s media a (before ++ seq ∷ []) seqs each in
    let same : sum (left s media a (before ++ seq ∷ [])).resent ≡ sum b.resent + length (resend_in v) =
    ap (λ (c : Account). sum c.resent) (left-push s media a before seq) ∙ more_resends b v (each_left s media a before each) (verdict_counts s media b seq) in
    let e : sum (left s media a (before ++ seq ∷ [])).resent + length rest ≡ sum b.resent + length (resend_in v ++ rest) = omega (arith, same, length-append (resend_in v) rest) in
    ap (λ (xs : List ℕ). sum (left s media a xs).resent) (sym (append_assoc before (seq ∷ []) seqs)) ∙ more ∙ e

pub resends_count : (s : RtxSettings) (media : ℕ) (a : Account) (seqs : List ℕ) → length a.resent ≡ length a.packets
    → sum (left s media a seqs).resent ≡ sum a.resent + length (flat_map resend_in (verdicts s media a seqs))
resends_count s media a seqs each = counted s media a [] seqs each

same_default : (xs : List ℕ) (k d e : ℕ) → k < length xs → get_or xs k d ≡ get_or xs k e
same_default [] k d e lt = absurd (omega (arith, lt))
same_default (x ∷ xs) zero d e lt = refl
same_default (x ∷ xs) (suc k) d e lt = same_default xs k d e (omega (arith, lt))

pub all_few : (s : RtxSettings) (events : List Event) → All (λ n. n ≤ s.repeats) (account s events).resent
all_few s events k d lt = subst (λ n. n ≤ s.repeats) (same_default (account s events).resent k 0 d lt) ((sound s events).few k)
