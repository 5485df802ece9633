-- A sender stands behind a history: for it, or for it with what the control asks for.
use Rattle.std.proofs.Common.{◌≡◌, ◌⊎◌, inl, inr, ℕ, Bool, true, false, Option, Some, None, List, [], ◌∷◌, ◌++◌, nat_lt, refl, sym, ◌∙◌, ap, subst}
use Rattle.std.proofs.lemmas.List.{append-nil}
use Rattle.gcc_units.specs.declared.limits.TheConstants.{GREATEST_MOMENT}
use Rattle.probe_clusters.specs.Deeds.{Deed}
use Rattle.estimator.specs.Est.{Est}
use Rattle.send_core.specs.declared.call.Call.TheVariants as call_kind
use Rattle.send_core.specs.declared.call.Change.{Change}
use Rattle.send_core.specs.declared.call.Entry.{Entry}
use Rattle.send_core.specs.declared.settings.Settings.{Settings}
use Rattle.send_core.specs.History.{entry, now}
use Rattle.send_core.specs.Reply.{reply, standing}
use Rattle.send_core.specs.Reports.{cluster_deeds}
use Rattle.send_core.specs.Estimates.{est}
use Rattle.send_core.specs.Settings.{fault_of, settings}
use Rattle.steered_sender.specs.declared.steering.Steering.{Steering}
use Rattle.steered_sender.specs.declared.steering.TheConstants.{CONTROL_CALLER}
use Rattle.steered_sender.specs.declared.steering.Wanted.{Wanted}
use Rattle.steered_sender.specs.Steered.{Steered, change_for, steered, steered_by, with_wanted}
use Rattle.steered_sender.specs.Standing.{Kept, StandsFor, SteersIf, IsBehind, asked, began_at, served, wanted_of, with_asked}
use Rattle.steered_sender.proofs.Answering.{told_by}
use Rattle.steered_sender.proofs.Asked.{asked-none}
use Rattle.steered_sender.proofs.Pushing.{steered-push}

-- what a control asks for is what the history determines
pub wanted-is : (s : Option Steering) (h : List Entry) → SteersIf s h → wanted_of s ≡ asked (began_at s) h
wanted-is None h steers = refl
wanted-is (Some s) h steers = steers.wanted

pub with-asked : (s t : Option Steering) (h : List Entry) → began_at t ≡ began_at s → SteersIf s h → with_wanted h (wanted_of s) ≡ with_asked (began_at t) h
with-asked s t h same steers = ap (λ (o : Option Wanted). with_wanted h o) (subst (λ b. wanted_of s ≡ asked b h) (sym same) (wanted-is s h steers))

pub served-is : (now : Kept) (h : List Entry) → StandsFor now h → served now h ≡ with_asked (began_at now.steering) h
served-is now h stands = with-asked now.steering now.steering h refl stands.steering

-- ---- it asks once

rests : (x : Est) (ds : List Deed) (set : Settings) (s : Steered) (caller : ℕ) (h : List Entry) (at : ℕ) (change : Change) (late : Bool) (fault : Option ℕ)
    → (steered_by x ds set s caller (call_kind.Configure at change) (told_by h at change late fault)).wanted ≡ None
rests x ds set s caller h at change true fault = refl
rests x ds set s caller h at change false (Some check) = refl
rests x ds set s caller h at change false None = refl

pub again : (control : Option ℕ) (h : List Entry) → with_asked control (with_asked control h) ≡ with_asked control h
again None h = append-nil (h ++ [])
again (Some start) h = by_wanted (steered start h).wanted refl
  where
    by_wanted : (o : Option Wanted) → (steered start h).wanted ≡ o → with_wanted (with_wanted h o) (asked (Some start) (with_wanted h o)) ≡ with_wanted h o
    by_wanted None is = sym (asked-none (h ++ []) (asked (Some start) (h ++ [])) (ap (asked (Some start)) (append-nil h) ∙ is))
    by_wanted (Some w) is =
        let change : Change = change_for w in
        let e : Entry = entry CONTROL_CALLER (call_kind.Configure (now h) change) (reply h (call_kind.Configure (now h) change)) in
        let none : asked (Some start) (h ++ e ∷ []) ≡ None =
        ap (λ (s : Steered). s.wanted) (steered-push start h e)
        ∙ rests (est h) (cluster_deeds h) (settings h) (steered start h) CONTROL_CALLER h (now h) change (nat_lt GREATEST_MOMENT (now h)) (fault_of (standing h) change) in
        sym (asked-none (h ++ e ∷ []) (asked (Some start) (h ++ e ∷ [])) none)

-- ---- calls on a sender that stands behind a history

-- the history that it stands for, with what the control asks for
pub record IsReady (control : Option ℕ) (now : Kept) (h : List Entry) : Type 0 where
  pub before : List Entry
  pub stands : StandsFor now before
  pub ready : served now before ≡ with_asked control h

pub behind-ready : (control : Option ℕ) (now : Kept) (h : List Entry) → began_at now.steering ≡ control → IsBehind now h → IsReady control now h
behind-ready control now h same (inl stands) = record { before = h; stands = stands; ready = served-is now h stands ∙ ap (λ b. with_asked b h) same }
behind-ready control now h same (inr stands) = record {
  before = with_asked (began_at now.steering) h;
  stands = stands;
  ready = served-is now (with_asked (began_at now.steering) h) stands ∙ (again (began_at now.steering) h ∙ ap (λ b. with_asked b h) same);
}

-- where a call was not served
pub behind-stays : (now next : Kept) (h : List Entry) → began_at next.steering ≡ began_at now.steering
    → ((history : List Entry) → StandsFor now history → StandsFor next history ⊎ StandsFor next (served now history)) → IsBehind now h → IsBehind next h
behind-stays now next h same stays behind = by_behind behind
  where
    asked_same : with_asked (began_at now.steering) h ≡ with_asked (began_at next.steering) h
    asked_same = ap (λ b. with_asked b h) (sym same)

    by_first : StandsFor now h → StandsFor next h ⊎ StandsFor next (served now h) → IsBehind next h
    by_first stands (inl t) = inl t
    by_first stands (inr t) = inr (subst (λ k. StandsFor next k) (served-is now h stands ∙ asked_same) t)

    by_second : StandsFor now (with_asked (began_at now.steering) h) → StandsFor next (with_asked (began_at now.steering) h) ⊎ StandsFor next (served now (with_asked (began_at now.steering) h)) → IsBehind next h
    by_second stands (inl t) = inr (subst (λ k. StandsFor next k) asked_same t)
    by_second stands (inr t) = inr (subst (λ k. StandsFor next k) (served-is now (with_asked (began_at now.steering) h) stands ∙ (again (began_at now.steering) h ∙ asked_same)) t)

    by_behind : IsBehind now h → IsBehind next h
    by_behind (inl stands) = by_first stands (stays h stands)
    by_behind (inr stands) = by_second stands (stays (with_asked (began_at now.steering) h) stands)
