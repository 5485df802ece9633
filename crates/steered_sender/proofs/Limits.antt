-- A change moves no limit.
use Rattle.std.proofs.Common.{◌≡◌, ℕ, ◌-◌, ◌||◌, Bool, true, false, Option, Some, None, List, [], ◌∷◌, ◌++◌, length, nat_le, nat_lt, refl, ◌∙◌, ap}
use Rattle.std.proofs.lemmas.List.{append-nil}
use Rattle.gcc_units.specs.declared.limits.TheConstants.{GREATEST_MOMENT, MOST_SENDS, MOST_REPORTS}
use Rattle.sent_history.specs.Events.{reports}
use Rattle.send_core.specs.declared.call.Call.{Call}
use Rattle.send_core.specs.declared.call.Call.TheVariants as call_kind
use Rattle.send_core.specs.declared.call.Change.{Change}
use Rattle.send_core.specs.declared.call.Entry.{Entry}
use Rattle.send_core.specs.declared.call.Reply.{Reply}
use Rattle.send_core.specs.declared.counts.TheConstants.{MOST_SENT, MOST_ACCEPTED}
use Rattle.send_core.specs.History.{entry, accepted, accepted_by, now, sent, sent_by}
use Rattle.send_core.specs.Reply.{reply, standing}
use Rattle.send_core.specs.Reports.{events, events_by}
use Rattle.send_core.specs.Settings.{fault_of}
use Rattle.send_core.proofs.Pushes.{accepted-push, events-push, sent-push}
use Rattle.live_sender.specs.Live.{is_exhausted}
use Rattle.steered_sender.specs.declared.steering.Wanted.{Wanted}
use Rattle.steered_sender.specs.declared.steering.TheConstants.{CONTROL_CALLER}
use Rattle.steered_sender.specs.Steered.{change_for, with_wanted}
use Rattle.steered_sender.proofs.Answering.{told_by}

-- nothing is accepted, sent or judged
pub record IsStill (call : Call) (given : Reply) : Type 0 where
  pub accepts : accepted_by call given ≡ []
  pub sends : sent_by given ≡ []
  pub judges : events_by call given ≡ []

still : (h : List Entry) (at : ℕ) (change : Change) (late : Bool) (fault : Option ℕ) → IsStill (call_kind.Configure at change) (told_by h at change late fault)
still h at change true fault = record { accepts = refl; sends = refl; judges = refl }
still h at change false (Some check) = record { accepts = refl; sends = refl; judges = refl }
still h at change false None = record { accepts = refl; sends = refl; judges = refl }

change-still : (h : List Entry) (at : ℕ) (change : Change) → IsStill (call_kind.Configure at change) (reply h (call_kind.Configure at change))
change-still h at change = still h at change (nat_lt GREATEST_MOMENT at) (fault_of (standing h) change)

-- what is counted, by what was sent, accepted and judged
abbrev limit : ℕ → ℕ → ℕ → Bool
limit sent_count judged_count accepted_count = nat_lt (MOST_SENT - MOST_SENDS) sent_count || (nat_le MOST_REPORTS judged_count || nat_le MOST_ACCEPTED accepted_count)

still-same : (h : List Entry) (e : Entry) → IsStill e.call e.reply → is_exhausted (h ++ e ∷ []) ≡ is_exhausted h
still-same h e s =
    let sends : sent (h ++ e ∷ []) ≡ sent h = sent-push h e ∙ (ap (λ rs. sent h ++ rs) s.sends ∙ append-nil (sent h)) in
    let accepts : accepted (h ++ e ∷ []) ≡ accepted h = accepted-push h e ∙ (ap (λ ps. accepted h ++ ps) s.accepts ∙ append-nil (accepted h)) in
    let judges : events (h ++ e ∷ []) ≡ events h = events-push h e ∙ (ap (λ es. events h ++ es) s.judges ∙ append-nil (events h)) in
    ap (λ rs. limit (length rs) (length (reports (events (h ++ e ∷ [])))) (length (accepted (h ++ e ∷ [])))) sends
    ∙ (ap (λ es. limit (length (sent h)) (length (reports es)) (length (accepted (h ++ e ∷ [])))) judges
    ∙ ap (λ ps. limit (length (sent h)) (length (reports (events h))) (length ps)) accepts)

-- what the control asks for is no event
pub events-asked : (h : List Entry) (o : Option Wanted) → events (with_wanted h o) ≡ events h
events-asked h None = ap events (append-nil h)
events-asked h (Some w) =
    let change : Call = call_kind.Configure (now h) (change_for w) in
    events-push h (entry CONTROL_CALLER change (reply h change)) ∙ (ap (λ es. events h ++ es) (change-still h (now h) (change_for w)).judges ∙ append-nil (events h))

-- with what the control asks for as many calls are left
pub exhausted-asked : (h : List Entry) (o : Option Wanted) → is_exhausted (with_wanted h o) ≡ is_exhausted h
exhausted-asked h None = ap is_exhausted (append-nil h)
exhausted-asked h (Some w) =
    still-same h (entry CONTROL_CALLER (call_kind.Configure (now h) (change_for w)) (reply h (call_kind.Configure (now h) (change_for w)))) (change-still h (now h) (change_for w))
