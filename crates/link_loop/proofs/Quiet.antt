-- Calls that send nothing.
use Rattle.std.proofs.Common.{◌≡◌, ℕ, Bool, true, false, cond, nat_lt, Option, None, Some, List, [], length, refl}
use Rattle.std.specs.Prelude.{Result, Ok, Err}
use Rattle.gcc_units.specs.declared.limits.TheConstants.{GREATEST_MOMENT, MOST_WAITING}
use Rattle.rtp_wire.specs.declared.packet.WireFault.{WireFault}
use Rattle.rtp_wire.specs.Place.{place_of}
use Rattle.twcc_report.specs.declared.fault.ReportFault.{ReportFault}
use Rattle.twcc_report.specs.Spelling.{Feedback}
use Rattle.twcc_report.specs.Reading.{read_of}
use Rattle.send_core.specs.declared.call.Call.{Call}
use Rattle.send_core.specs.declared.call.Call.TheVariants as call
use Rattle.send_core.specs.declared.call.Reply.TheVariants as given
use Rattle.send_core.specs.declared.call.Cause.TheVariants as cause
use Rattle.send_core.specs.declared.call.Entry.{Entry}
use Rattle.send_core.specs.History.{at_of, later, now, accepted, waiting}
use Rattle.send_core.specs.Settings.{fault_of}
use Rattle.send_core.specs.Reply.{extension_id, enqueued, reported, configured, standing, reply_in_time, reply}
use Rattle.link_loop.specs.ClosedLoop.{offers_in}

abbrev pub IsQuiet : Call → Type 0
IsQuiet (call.Pace at) = ⊥
IsQuiet (call.Enqueue at class wire) = Unit {0}
IsQuiet (call.Report at bytes) = Unit {0}
IsQuiet (call.Configure at change) = Unit {0}

quiet-in_time : (h : List Entry) (m : ℕ) (c : Call) → IsQuiet c → offers_in (reply_in_time h m c) ≡ []
quiet-in_time h m (call.Enqueue at class wire) quiet = by_place (place_of (extension_id h) wire.items)
  where
    by_test : (b : Bool) → offers_in (cond b (given.Accepted m (length (accepted h))) (given.Refused m (cause.QueueFull MOST_WAITING))) ≡ []
    by_test true = refl
    by_test false = refl

    by_place : (o : Result ℕ WireFault) → offers_in (enqueued h m o) ≡ []
    by_place (Err fault) = refl
    by_place (Ok place) = by_test (nat_lt (length (waiting h)) MOST_WAITING)
quiet-in_time h m (call.Pace at) quiet = absurd quiet
quiet-in_time h m (call.Report at bytes) quiet = by_read (read_of bytes.items)
  where
    by_read : (o : Result Feedback ReportFault) → offers_in (reported h m o) ≡ []
    by_read (Err fault) = refl
    by_read (Ok report) = refl
quiet-in_time h m (call.Configure at change) quiet = by_check (fault_of (standing h) change)
  where
    by_check : (o : Option ℕ) → offers_in (configured h m change o) ≡ []
    by_check None = refl
    by_check (Some check) = refl

pub quiet-reply : (h : List Entry) (c : Call) → IsQuiet c → offers_in (reply h c) ≡ []
quiet-reply h c quiet = by_time (nat_lt GREATEST_MOMENT (at_of c))
  where
    by_time : (b : Bool) → offers_in (cond b (given.Refused (now h) cause.MomentTooLarge) (reply_in_time h (later (now h) c) c)) ≡ []
    by_time true = refl
    by_time false = quiet-in_time h (later (now h) c) c quiet
