-- The window of a legal history is in its range.
use Rattle.std.proofs.Common.{◌≡◌, ℕ, ◌≤◌, ◌&&◌, Bool, true, false, not, cond, nat_lt, nat_le, Option, None, Some, unwrap_or, Result, Ok, Err, List, [], ◌∷◌, ◌++◌, length, refl, sym, ◌∙◌, ap, subst, append_assoc, arith}
use Rattle.std.proofs.lemmas.Bool.Decides.{nat_tests}
use Rattle.std.proofs.lemmas.List.{append-nil}
use Rattle.std.proofs.lemmas.List.Sums.{fold-append}
use Rattle.gcc_units.specs.declared.limits.TheConstants.{GREATEST_MOMENT, MOST_WAITING}
use Rattle.pace_budget.specs.declared.bucket.TheConstants.{GREATEST_WINDOW}
use Rattle.rtp_wire.specs.declared.packet.WireFault.{WireFault}
use Rattle.rtp_wire.specs.Place.{place_of}
use Rattle.twcc_report.specs.declared.fault.ReportFault.{ReportFault}
use Rattle.twcc_report.specs.Spelling.{Feedback}
use Rattle.twcc_report.specs.Reading.{read_of}
use Rattle.send_core.specs.declared.call.Call.{Call}
use Rattle.send_core.specs.declared.call.Call.TheVariants.{Enqueue, Pace, Report, Configure}
use Rattle.send_core.specs.declared.call.Change.{Change}
use Rattle.send_core.specs.declared.call.Reply.TheVariants.{Accepted, Refused}
use Rattle.send_core.specs.declared.call.Cause.TheVariants as cause
use Rattle.send_core.specs.declared.call.Entry.{Entry}
use Rattle.send_core.specs.declared.settings.Settings.{Settings}
use Rattle.send_core.specs.declared.settings.TheConstants.{LEAST_WINDOW}
use Rattle.send_core.specs.History.{at_of, later, now, accepted, waiting}
use Rattle.send_core.specs.Settings.{start_settings, settings_by, settings, settings_after, passes, has_rates, has_bounds, has_pacing, fault_of, Standing}
use Rattle.send_core.specs.Levels.{window}
use Rattle.send_core.specs.Reply.{extension_id, enqueued, reported, configured, standing, reply_in_time, reply, IsAnswered}
use Rattle.send_laws.proofs.Sending.{answered-reply}

both : (a b : Bool) → (a && b) ≡ true → (a ≡ true) × (b ≡ true)
both true b h = (refl, h)
both false b h = absurd cc

-- a check that passes, and what the later ones say
passing : (b : Bool) (k : ℕ) (rest : Option ℕ) → cond (not b) (Some k) rest ≡ None → (b ≡ true) × (rest ≡ None)
passing true k rest h = (refl, h)
passing false k rest h = absurd cc

chosen : (o : Option ℕ) (stays : ℕ) → passes (λ n. nat_le LEAST_WINDOW n && nat_le n GREATEST_WINDOW) o ≡ true → stays ≤ GREATEST_WINDOW → unwrap_or o stays ≤ GREATEST_WINDOW
chosen None stays has h = h
chosen (Some n) stays has h = let high : nat_le n GREATEST_WINDOW ≡ true = (both (nat_le LEAST_WINDOW n) (nat_le n GREATEST_WINDOW) has).1 in grind (arith, nat_tests)

-- a change that was checked leaves the window in its range
window-after : (s : Standing) (change : Change) → s.settings.window ≤ GREATEST_WINDOW → fault_of s change ≡ None → (settings_after s.settings change).window ≤ GREATEST_WINDOW
window-after s change was h =
    let one = passing (has_rates change) 1 _ h in
    let two = passing (has_bounds s.settings change) 2 _ one.1 in
    let three = passing (has_pacing change) 3 _ two.1 in
    chosen change.window s.settings.window (both _ _ three.0).1 was

in_time-window : (h : List Entry) (m : ℕ) (c : Call) → window h ≤ GREATEST_WINDOW → (settings_by (settings h) c (reply_in_time h m c)).window ≤ GREATEST_WINDOW
in_time-window h m (Enqueue at class wire) was = by_place (place_of (extension_id h) wire.items)
  where
    by_test : (b : Bool) → (settings_by (settings h) (Enqueue at class wire) (cond b (Accepted m (length (accepted h))) (Refused m (cause.QueueFull MOST_WAITING)))).window ≤ GREATEST_WINDOW
    by_test true = was
    by_test false = was

    by_place : (o : Result ℕ WireFault) → (settings_by (settings h) (Enqueue at class wire) (enqueued h m o)).window ≤ GREATEST_WINDOW
    by_place (Err fault) = was
    by_place (Ok place) = by_test (nat_lt (length (waiting h)) MOST_WAITING)
in_time-window h m (Pace at) was = was
in_time-window h m (Report at bytes) was = by_read (read_of bytes.items)
  where
    by_read : (o : Result Feedback ReportFault) → (settings_by (settings h) (Report at bytes) (reported h m o)).window ≤ GREATEST_WINDOW
    by_read (Err fault) = was
    by_read (Ok report) = was
in_time-window h m (Configure at change) was = by_check (fault_of (standing h) change) refl
  where
    by_check : (o : Option ℕ) → fault_of (standing h) change ≡ o → (settings_by (settings h) (Configure at change) (configured h m change o)).window ≤ GREATEST_WINDOW
    by_check None is = window-after (standing h) change was is
    by_check (Some check) is = was

refused-window : (s : Settings) (c : Call) (m : ℕ) → (settings_by s c (Refused m cause.MomentTooLarge)).window ≡ s.window
refused-window s (Enqueue at class wire) m = refl
refused-window s (Pace at) m = refl
refused-window s (Report at bytes) m = refl
refused-window s (Configure at change) m = refl

reply-window : (h : List Entry) (c : Call) → window h ≤ GREATEST_WINDOW → (settings_by (settings h) c (reply h c)).window ≤ GREATEST_WINDOW
reply-window h c was = by_time (nat_lt GREATEST_MOMENT (at_of c))
  where
    by_time : (b : Bool) → (settings_by (settings h) c (cond b (Refused (now h) cause.MomentTooLarge) (reply_in_time h (later (now h) c) c))).window ≤ GREATEST_WINDOW
    by_time true = subst (λ n. n ≤ GREATEST_WINDOW) (sym (refused-window (settings h) c (now h))) was
    by_time false = in_time-window h (later (now h) c) c was

window-push : (before : List Entry) (e : Entry) → window (before ++ e ∷ []) ≡ (settings_by (settings before) e.call e.reply).window
window-push before e = ap (λ (s : Settings). s.window) (fold-append (λ s (x : Entry). settings_by s x.call x.reply) start_settings before (e ∷ []))

rest-window : (before rest : List Entry) → IsAnswered (before ++ rest) → window before ≤ GREATEST_WINDOW → window (before ++ rest) ≤ GREATEST_WINDOW
rest-window before [] legal was = subst (λ h. window h ≤ GREATEST_WINDOW) (sym (append-nil before)) was
rest-window before (e ∷ rest) legal was =
    subst (λ h. window h ≤ GREATEST_WINDOW) (append_assoc before (e ∷ []) rest)
    (rest-window (before ++ e ∷ []) rest (subst IsAnswered (sym (append_assoc before (e ∷ []) rest)) legal)
    (subst (λ n. n ≤ GREATEST_WINDOW)
    (sym (window-push before e ∙ ap (λ r. (settings_by (settings before) e.call r).window) (answered-reply before rest e legal)))
    (reply-window before e.call was)))

pub window-in_range : (h : List Entry) → IsAnswered h → window h ≤ GREATEST_WINDOW
window-in_range h legal = rest-window [] h legal (omega arith)
