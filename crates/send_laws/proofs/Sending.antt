-- What the entries of a legal history send.
use Rattle.std.proofs.Common.{◌≡◌, ℕ, Bool, true, false, cond, nat_lt, Option, None, Some, List, [], ◌∷◌, ◌++◌, length, slice_get, refl, sym, subst}
use Rattle.std.specs.Prelude.{Result, Ok, Err}
use Rattle.std.proofs.Math.Seq.{take-append_seam}
use Rattle.gcc_units.specs.declared.limits.TheConstants.{GREATEST_MOMENT, MOST_WAITING, MOST_SENDS}
use Rattle.rtp_wire.specs.declared.packet.WireFault.{WireFault}
use Rattle.rtp_wire.specs.Place.{place_of}
use Rattle.twcc_report.specs.declared.fault.ReportFault.{ReportFault}
use Rattle.twcc_report.specs.Spelling.{Feedback}
use Rattle.twcc_report.specs.Reading.{read_of}
use Rattle.pacer.specs.declared.sent.Sent.{Sent}
use Rattle.pacer.specs.Pace.{paced}
use Rattle.send_core.specs.declared.call.Call.{Call}
use Rattle.send_core.specs.declared.call.Call.TheVariants.{Enqueue, Pace, Report, Configure}
use Rattle.send_core.specs.declared.call.Reply.TheVariants.{Accepted, Refused}
use Rattle.send_core.specs.declared.call.Cause.TheVariants as cause
use Rattle.send_core.specs.declared.call.Entry.{Entry}
use Rattle.send_core.specs.History.{at_of, later, now, accepted, sent_by, waiting}
use Rattle.send_core.specs.Settings.{fault_of}
use Rattle.send_core.specs.Reply.{extension_id, enqueued, reported, configured, standing, terms_at, standing_at, reply_in_time, reply, IsAnswered}

-- what holds of no sends and of those of a pace holds of what each call sends
sends-in_time : (P : List Sent → Type 0) (h : List Entry) (m : ℕ) (c : Call) → P [] → P (paced MOST_SENDS (terms_at h m) (standing_at h m)) → P (sent_by (reply_in_time h m c))
sends-in_time P h m (Enqueue at class wire) none some = by_place (place_of (extension_id h) wire.items)
  where
    by_test : (b : Bool) → P (sent_by (cond b (Accepted m (length (accepted h))) (Refused m (cause.QueueFull MOST_WAITING))))
    by_test true = none
    by_test false = none

    by_place : (o : Result ℕ WireFault) → P (sent_by (enqueued h m o))
    by_place (Err fault) = none
    by_place (Ok place) = by_test (nat_lt (length (waiting h)) MOST_WAITING)
sends-in_time P h m (Pace at) none some = some
sends-in_time P h m (Report at bytes) none some = by_read (read_of bytes.items)
  where
    by_read : (o : Result Feedback ReportFault) → P (sent_by (reported h m o))
    by_read (Err fault) = none
    by_read (Ok report) = none
sends-in_time P h m (Configure at change) none some = by_check (fault_of (standing h) change)
  where
    by_check : (o : Option ℕ) → P (sent_by (configured h m change o))
    by_check None = none
    by_check (Some check) = none

sends-are : (P : List Sent → Type 0) (h : List Entry) (c : Call)
    → P [] → P (paced MOST_SENDS (terms_at h (later (now h) c)) (standing_at h (later (now h) c))) → P (sent_by (reply h c))
sends-are P h c none some = by_time (nat_lt GREATEST_MOMENT (at_of c))
  where
    by_time : (b : Bool) → P (sent_by (cond b (Refused (now h) cause.MomentTooLarge) (reply_in_time h (later (now h) c) c)))
    by_time true = none
    by_time false = sends-in_time P h (later (now h) c) c none some

slice_get-seam : (before : List Entry) (e : Entry) (rest : List Entry) → slice_get (before ++ e ∷ rest) (length before) ≡ Some e
slice_get-seam [] e rest = refl
slice_get-seam (x ∷ xs) e rest = slice_get-seam xs e rest

pub answered-reply : (before rest : List Entry) (e : Entry) → IsAnswered (before ++ e ∷ rest) → e.reply ≡ reply before e.call
answered-reply before rest e legal =
    subst (λ (t : List Entry). e.reply ≡ reply t e.call) (take-append_seam before (e ∷ rest))
    (legal (length before) e (slice_get-seam before e rest))

-- the same of the entries of a legal history
pub answered-sends : (P : List Sent → Type 0) (before rest : List Entry) (e : Entry) → IsAnswered (before ++ e ∷ rest)
    → P [] → P (paced MOST_SENDS (terms_at before (later (now before) e.call)) (standing_at before (later (now before) e.call))) → P (sent_by e.reply)
answered-sends P before rest e legal none some = subst (λ r. P (sent_by r)) (sym (answered-reply before rest e legal)) (sends-are P before e.call none some)
