-- The estimates of a history are those that its last reply with rates tells.
use Rattle.std.proofs.Common.{◌≡◌, ℕ, suc, zero, arith, ◌+◌, Bool, true, false, cond, nat_lt, Option, None, Some, List, [], ◌∷◌, ◌++◌, length, take, slice_get, refl, sym, ◌∙◌, ap, subst}
use Rattle.std.specs.Prelude.{Result, Ok, Err}
use Rattle.gcc_units.specs.declared.limits.TheConstants.{GREATEST_MOMENT, MOST_WAITING}
use Rattle.gcc_units.proofs.Walk.{walk-push}
use Rattle.rtp_wire.specs.declared.packet.WireFault.{WireFault}
use Rattle.rtp_wire.specs.Place.{place_of}
use Rattle.twcc_report.specs.declared.fault.ReportFault.{ReportFault}
use Rattle.twcc_report.specs.Spelling.{Feedback}
use Rattle.twcc_report.specs.Reading.{read_of}
use Rattle.estimator.specs.Est.{Est, start_est, estimate}
use Rattle.send_core.specs.declared.call.Call.{Call}
use Rattle.send_core.specs.declared.call.Call.TheVariants.{Enqueue, Pace, Report, Configure}
use Rattle.send_core.specs.declared.call.Rates.{Rates}
use Rattle.send_core.specs.declared.call.Reply.{Reply}
use Rattle.send_core.specs.declared.call.Reply.TheVariants.{Accepted, Refused}
use Rattle.send_core.specs.declared.call.Cause.TheVariants as cause
use Rattle.send_core.specs.declared.call.Entry.{Entry}
use Rattle.send_core.specs.declared.settings.TheConstants.{START_RATE}
use Rattle.send_core.specs.History.{at_of, later, now, accepted, waiting}
use Rattle.send_core.specs.Settings.{settings, fault_of}
use Rattle.send_core.specs.Reports.{cluster_deeds}
use Rattle.send_core.specs.Estimates.{est, est_by}
use Rattle.send_core.specs.Reply.{extension_id, enqueued, reported, configured, standing, reply_in_time, reply, IsLegal}
use Rattle.run_top.specs.Told.{rates_in, told_after}

-- these are the two estimates, by what was told or else as they stood before
abbrev pub AreTold : Est → Option Rates → Est → Type 0
AreTold before None after = after ≡ before
AreTold before (Some rates) after = ((estimate after).delay ≡ rates.delay) × ((estimate after).loss ≡ rates.loss)

-- what a reply tells is what the entry makes of the estimates
abbrev pub Tells : List Entry → Call → Reply → Type 0
Tells h c given = AreTold (est h) (rates_in given) (est_by (settings h) (cluster_deeds h) (est h) c given)

tells-in_time : (h : List Entry) (m : ℕ) (c : Call) → Tells h c (reply_in_time h m c)
tells-in_time h m (Enqueue at class wire) = by_place (place_of (extension_id h) wire.items)
  where
    by_test : (b : Bool) → Tells h (Enqueue at class wire) (cond b (Accepted m (length (accepted h))) (Refused m (cause.QueueFull MOST_WAITING)))
    by_test true = refl
    by_test false = refl

    by_place : (o : Result ℕ WireFault) → Tells h (Enqueue at class wire) (enqueued h m o)
    by_place (Err fault) = refl
    by_place (Ok place) = by_test (nat_lt (length (waiting h)) MOST_WAITING)
tells-in_time h m (Pace at) = refl
tells-in_time h m (Report at bytes) = by_read (read_of bytes.items)
  where
    by_read : (o : Result Feedback ReportFault) → Tells h (Report at bytes) (reported h m o)
    by_read (Err fault) = refl
    by_read (Ok report) = (refl, refl)
tells-in_time h m (Configure at change) = by_check (fault_of (standing h) change)
  where
    by_check : (o : Option ℕ) → Tells h (Configure at change) (configured h m change o)
    by_check None = (refl, refl)
    by_check (Some check) = refl

refusal-tells : (h : List Entry) (c : Call) (m : ℕ) → Tells h c (Refused m cause.MomentTooLarge)
refusal-tells h (Enqueue at class wire) m = refl
refusal-tells h (Pace at) m = refl
refusal-tells h (Report at bytes) m = refl
refusal-tells h (Configure at change) m = refl

reply-tells : (h : List Entry) (c : Call) → Tells h c (reply h c)
reply-tells h c = by_time (nat_lt GREATEST_MOMENT (at_of c))
  where
    by_time : (b : Bool) → Tells h c (cond b (Refused (now h) cause.MomentTooLarge) (reply_in_time h (later (now h) c) c))
    by_time true = refusal-tells h c (now h)
    by_time false = tells-in_time h (later (now h) c) c

est-push : (h : List Entry) (e : Entry) → est (h ++ e ∷ []) ≡ est_by (settings h) (cluster_deeds h) (est h) e.call e.reply
est-push h e = walk-push (λ before x (y : Entry). est_by (settings before) (cluster_deeds before) x y.call y.reply) (start_est START_RATE) h e

entry-tells : (h : List Entry) (e : Entry) → e.reply ≡ reply h e.call → AreTold (est h) (rates_in e.reply) (est (h ++ e ∷ []))
entry-tells h e is =
    subst (λ x. AreTold (est h) (rates_in e.reply) x) (sym (est-push h e))
    (subst (λ r. Tells h e.call r) (sym is) (reply-tells h e.call))

-- ---- by the places of a legal history

-- the two estimates after so many entries
pub record Estimated (history : List Entry) (k delay loss : ℕ) : Type 0 where
  pub delay_is : (estimate (est (take k history))).delay ≡ delay
  pub loss_is : (estimate (est (take k history))).loss ≡ loss

take-next : {X : Type 0} (xs : List X) (k : ℕ) (x : X) → slice_get xs k ≡ Some x → take (k + 1) xs ≡ take k xs ++ x ∷ []
take-next [] k x is = absurd cc
take-next (y ∷ ys) zero x is = let same : y ≡ x = cc in ap (λ z. z ∷ []) same
take-next (y ∷ ys) (suc k) x is = let e : suc k + 1 ≡ suc (k + 1) = omega arith in rw e (ap (λ zs. y ∷ zs) (take-next ys k x is))

pub estimated-none : (history : List Entry) → Estimated history 0 START_RATE START_RATE
estimated-none history = record { delay_is = refl; loss_is = refl }

at-place : (history : List Entry) (k : ℕ) (e : Entry) → IsLegal history → slice_get history k ≡ Some e
    → AreTold (est (take k history)) (rates_in e.reply) (est (take (k + 1) history))
at-place history k e legal at =
    subst (λ t. AreTold (est (take k history)) (rates_in e.reply) (est t)) (sym (take-next history k e at))
    (entry-tells (take k history) e (legal.each k e at))

pub estimated-next : (history : List Entry) (k : ℕ) (e : Entry) (before : ℕ × ℕ) → IsLegal history → slice_get history k ≡ Some e
    → Estimated history k before.0 before.1 → Estimated history (k + 1) (told_after before (rates_in e.reply)).0 (told_after before (rates_in e.reply)).1
estimated-next history k e before legal at is = next (rates_in e.reply) (at-place history k e legal at)
  where
    next : (o : Option Rates) → AreTold (est (take k history)) o (est (take (k + 1) history))
        → Estimated history (k + 1) (told_after before o).0 (told_after before o).1
    next None same = record { delay_is = ap (λ x. (estimate x).delay) same ∙ is.delay_is; loss_is = ap (λ x. (estimate x).loss) same ∙ is.loss_is }
    next (Some rates) told = record { delay_is = told.0; loss_is = told.1 }
