-- What the reply to a change says of it.
use Rattle.std.proofs.Common.{◌≡◌, ℕ, ◌≤◌, ◌==◌, Bool, true, false, cond, Option, None, Some, List, [], ◌∷◌, ◌++◌, count_by, nat_lt, refl, sym, ap, subst}
use Rattle.std.specs.Option.{ForSome}
use Rattle.gcc_units.specs.Rates.{IsRate, IsBounds}
use Rattle.gcc_units.specs.declared.limits.TheConstants.{GREATEST_MOMENT}
use Rattle.probe_clusters.specs.Cluster.{waits}
use Rattle.probe_clusters.specs.declared.cluster.Cluster.{Cluster}
use Rattle.send_core.specs.declared.call.Call.TheVariants as call_kind
use Rattle.send_core.specs.declared.call.Cause.{Cause}
use Rattle.send_core.specs.declared.call.Cause.TheVariants as cause_kind
use Rattle.send_core.specs.declared.call.Change.{Change}
use Rattle.send_core.specs.declared.call.Entry.{Entry}
use Rattle.send_core.specs.declared.call.Reply.{Reply}
use Rattle.send_core.specs.declared.call.Reply.TheVariants as reply_kind
use Rattle.send_core.specs.History.{entry, later, now}
use Rattle.send_core.specs.Planning.{CanPlan}
use Rattle.send_core.specs.Reply.{reply, standing, configured}
use Rattle.send_core.specs.Settings.{fault_of, settings, settings_after, plans}
use Rattle.send_core.specs.Stands.{AreSettings}
use Rattle.send_core.proofs.Checking.{HasPassed, has-passed, settings-pass, start-passes, can-plan}
use Rattle.steered_sender.specs.declared.clustering.TheConstants.{MOST_PLANS}
use Rattle.steered_sender.specs.declared.steering.Steering.{Steering}
use Rattle.steered_sender.specs.declared.steering.TheConstants.{CONTROL_CALLER}
use Rattle.steered_sender.specs.Replies.{is_configured}
use Rattle.steered_sender.specs.Steps.{Steers, Changes, bounds_with}
use Rattle.steered_sender.proofs.Pushing.{IsQuiet, quiet-refused, changed-moves}

-- the reply to a change, by whether its moment is too large and by the check that fails
abbrev pub told_by : List Entry → ℕ → Change → Bool → Option ℕ → Reply
told_by h at change late fault =
    cond late (reply_kind.Refused (now h) cause_kind.MomentTooLarge) (configured h (later (now h) (call_kind.Configure at change)) change fault)

not_refused : (given : Reply) (moment : ℕ) (cause : Cause) → given ≡ reply_kind.Refused moment cause → is_configured given ≡ true → ⊥
not_refused given moment cause is holds = let fails : is_configured given ≡ false = ap is_configured is in cc

accepted-none : (h : List Entry) (at : ℕ) (change : Change) (late : Bool) (fault : Option ℕ) (given : Reply) → given ≡ told_by h at change late fault → is_configured given ≡ true → fault ≡ None
accepted-none h at change late None given is holds = refl
accepted-none h at change true (Some check) given is holds = absurd (not_refused given (now h) cause_kind.MomentTooLarge is holds)
accepted-none h at change false (Some check) given is holds = absurd (not_refused given (later (now h) (call_kind.Configure at change)) (cause_kind.Config check) is holds)

quiet-told : (h : List Entry) (at : ℕ) (change : Change) (late : Bool) (fault : Option ℕ) (given : Reply) → given ≡ told_by h at change late fault → is_configured given ≡ false
    → IsQuiet (call_kind.Configure at change) given
quiet-told h at change true fault given is fails = subst (IsQuiet (call_kind.Configure at change)) (sym is) (quiet-refused (call_kind.Configure at change) (now h) cause_kind.MomentTooLarge)
quiet-told h at change false (Some check) given is fails =
    subst (IsQuiet (call_kind.Configure at change)) (sym is) (quiet-refused (call_kind.Configure at change) (later (now h) (call_kind.Configure at change)) (cause_kind.Config check))
quiet-told h at change false None given is fails = let holds : is_configured given ≡ true = ap is_configured is in absurd cc

-- ---- an accepted change passed the checks

pub has-none : (h : List Entry) (at : ℕ) (change : Change) (given : Reply) → given ≡ reply h (call_kind.Configure at change) → is_configured given ≡ true → fault_of (standing h) change ≡ None
has-none h at change given is holds = accepted-none h at change (nat_lt GREATEST_MOMENT at) (fault_of (standing h) change) given is holds

pub quiet-when : (h : List Entry) (at : ℕ) (change : Change) (given : Reply) → given ≡ reply h (call_kind.Configure at change) → is_configured given ≡ false → IsQuiet (call_kind.Configure at change) given
quiet-when h at change given is fails = quiet-told h at change (nat_lt GREATEST_MOMENT at) (fault_of (standing h) change) given is fails

pub record MayChange (s : Steering) (change : Change) : Type 0 where
  pub can : CanPlan s.clusters (plans s.started change)
  pub start : ForSome change.start IsRate
  pub bounds : IsBounds (bounds_with s.bounds change)

pub may-change : (h : List Entry) (at : ℕ) (change : Change) (given : Reply) (s : Steering) → Steers s h → AreSettings (settings h) → given ≡ reply h (call_kind.Configure at change)
    → is_configured given ≡ true → MOST_PLANS ≤ s.clusters.spare → MayChange s change
may-change h at change given s stands set is holds room =
    let p : HasPassed (standing h) change = has-passed (standing h) change (has-none h at change given is holds) in
    let counted : (standing h).waiting ≡ count_by waits s.clusters.items = ap (λ (cs : List Cluster). count_by waits cs) (sym stands.clusters.are) in
    let can : CanPlan s.clusters (plans (standing h).started change) = can-plan (standing h) change s.clusters p counted room in
    let after : AreSettings (settings_after (settings h) change) = settings-pass (standing h) change p set in
    record {
      can = subst (λ b. CanPlan s.clusters (plans b change)) (sym stands.was_started) can;
      start = start-passes (standing h) change p;
      bounds = subst (λ b. IsBounds (bounds_with b change)) (sym stands.bounds) after.bounds;
    }

pub moves-when : (h : List Entry) (caller at : ℕ) (change : Change) (given : Reply) (own : Bool) (before after : Steering) → is_configured given ≡ true
    → Steers before h → Changes own change before after → (caller == CONTROL_CALLER) ≡ own → Steers after (h ++ entry caller (call_kind.Configure at change) given ∷ [])
moves-when h caller at change (reply_kind.Configured moment told shares) own before after holds s c is = changed-moves h caller at change moment told shares own before after s c is
moves-when h caller at change (reply_kind.Accepted moment index) own before after holds s c is = absurd cc
moves-when h caller at change (reply_kind.Paced moment records) own before after holds s c is = absurd cc
moves-when h caller at change (reply_kind.Credited moment judged signal m acked told shares) own before after holds s c is = absurd cc
moves-when h caller at change (reply_kind.Refused moment cause) own before after holds s c is = absurd cc
