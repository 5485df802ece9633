-- A NACK that is being answered, number by number.
use Rattle.std.proofs.Common.{◌≡◌, ℕ, ◌+◌, ◌-◌, ◌<◌, Bool, List, [], ◌∷◌, ◌++◌, length, take, get_or, count_by, sym, ap, subst, ◌∙◌, cond}
use Rattle.std.specs.List.{flat_map}
use Rattle.std.proofs.lemmas.List.Sums.{sum_by-append}
use Rattle.std.proofs.lemmas.List.{take_more}
use Rattle.gcc_units.specs.Listed.{Listed, bare}
use Rattle.gcc_units.proofs.Walk.{flat_map-push}
use Rattle.nack_rtx.specs.declared.TheConstants.{MOST_STORED}
use Rattle.nack_rtx.specs.declared.resender.RtxSettings.{RtxSettings}
use Rattle.nack_rtx.specs.declared.resender.Resend.{Resend}
use Rattle.nack_rtx.specs.declared.resender.Answered.{Answered}
use Rattle.nack_rtx.specs.declared.resender.Answering.{Answering}
use Rattle.nack_rtx.specs.declared.resender.Verdict.{Verdict}
use Rattle.nack_rtx.specs.Resending.{Event, asked, Account, account, verdict, verdicts, left, resend_in, is_unknown, is_spent, told}
use Rattle.nack_rtx.specs.Answering.{IsTold, Works}
use Rattle.nack_rtx.specs.Held.{Held}
use Rattle.nack_rtx.specs.Keeping.{Keeps, StandsFor, with_counts}
use Rattle.nack_rtx.proofs.Kept.{keeps_more, verdicts-push, account-push}

pub begins : (h : Held) (w : Answering) (s : RtxSettings) (media : ℕ) (a : Account) → Keeps h a → w.counts ≡ h.counts → w.resends ≡ h.resends
    → w.answered.resends ≡ bare [] → w.answered.unknown ≡ 0 → w.answered.spent ≡ 0 → Works h w s media a []
begins h w s media a keep c r list unknown spent = record {
  keeps = record { packets = keep.packets; counts = c ∙ keep.counts; each = keep.each; places = keep.places; kept = keep.kept; resends = r ∙ keep.resends };
  list = ap (λ (l : Listed Resend). l.items) list;
  unknown = unknown;
  spent = spent;
}

count-push : {X : Type 0} (p : X → Bool) (xs : List X) (x : X) → count_by p (xs ++ x ∷ []) ≡ count_by p xs + count_by p (x ∷ [])
count-push p xs x = sum_by-append (λ y. cond (p y) 1 0) xs (x ∷ [])

pub goes_on : (h : Held) (w now : Answering) (s : RtxSettings) (media : ℕ) (a : Account) (seqs : List ℕ) (seq : ℕ) (v : Verdict) → Works h w s media a seqs
    → v ≡ verdict s media (left s media a seqs) seq → IsTold w now (h.kept - MOST_STORED) v → Works h now s media a (seqs ++ seq ∷ [])
goes_on h w now s media a seqs seq v works is tell =
    let all : verdicts s media a (seqs ++ seq ∷ []) ≡ verdicts s media a seqs ++ v ∷ [] =
    verdicts-push s media a seqs seq ∙ ap (λ (u : Verdict). verdicts s media a seqs ++ u ∷ []) (sym is) in
    record {
      keeps = keeps_more h s media a seqs seq v w.counts now.counts w.resends now.resends works.keeps is tell.counts tell.resends;
      list = tell.list ∙ ap (λ (xs : List Resend). xs ++ resend_in v) works.list ∙ sym (ap (flat_map resend_in) all ∙ flat_map-push resend_in (verdicts s media a seqs) v);
      unknown = tell.unknown ∙ ap (λ k. k + count_by is_unknown (v ∷ [])) works.unknown ∙ sym (ap (count_by is_unknown) all ∙ count-push is_unknown (verdicts s media a seqs) v);
      spent = tell.spent ∙ ap (λ k. k + count_by is_spent (v ∷ [])) works.spent ∙ sym (ap (count_by is_spent) all ∙ count-push is_spent (verdicts s media a seqs) v);
    }

-- the same for numbers that are read from a list
pub goes_on_at : (h : Held) (w now : Answering) (s : RtxSettings) (media : ℕ) (a : Account) (seqs : List ℕ) (i : ℕ) (v : Verdict) → i < length seqs → Works h w s media a (take i seqs)
    → v ≡ verdict s media (left s media a (take i seqs)) (get_or seqs i 0) → IsTold w now (h.kept - MOST_STORED) v → Works h now s media a (take (i + 1) seqs)
goes_on_at h w now s media a seqs i v lt works is tell =
    subst (λ (xs : List ℕ). Works h now s media a xs) (sym (take_more seqs i 0 lt)) (goes_on h w now s media a (take i seqs) (get_or seqs i 0) v works is tell)

of_parts : Listed Resend → ℕ → ℕ → Answered
of_parts l u s = record { resends = l; unknown = u; spent = s }

pub tells : (h : Held) (w : Answering) (list : Listed Resend) (s : RtxSettings) (media : ℕ) (a : Account) (seqs : List ℕ) → Works h w s media a seqs
    → list ≡ bare w.answered.resends.items
    → record { resends = list; unknown = w.answered.unknown; spent = w.answered.spent } ≡ told (verdicts s media a seqs)
unfolding of_parts
tells h w list s media a seqs works is =
    ap (λ l. of_parts l w.answered.unknown w.answered.spent) (is ∙ ap bare works.list)
    ∙ ap (λ u. of_parts (bare (flat_map resend_in (verdicts s media a seqs))) u w.answered.spent) works.unknown
    ∙ ap (of_parts (bare (flat_map resend_in (verdicts s media a seqs))) (count_by is_unknown (verdicts s media a seqs))) works.spent

pub stands_after : (h now : Held) (w : Answering) (media : ℕ) (seqs : List ℕ) (events : List Event) → Works h w h.settings media (account h.settings events) seqs
    → now ≡ with_counts h w.counts w.resends → StandsFor now (events ++ asked media seqs ∷ [])
stands_after h now w media seqs events works is =
    subst (λ (k : Held). StandsFor k (events ++ asked media seqs ∷ [])) (sym is)
    (subst (Keeps (with_counts h w.counts w.resends)) (sym (account-push h.settings events (asked media seqs))) works.keeps)
