-- What a call that is made sends, and when.
use Rattle.std.proofs.Common.{◌≡◌, ℕ, ◌≤◌, max, Bool, true, false, cond, nat_lt, Option, None, Some, List, [], ◌∷◌, ◌++◌, length, map, refl, sym, ◌∙◌, ap, subst, arith}
use Rattle.std.specs.Prelude.{Result, Ok, Err}
use Rattle.std.specs.List.{All}
use Rattle.std.proofs.lemmas.List.{length-map}
use Rattle.std.proofs.lemmas.List.Elements.{All-nil, All-cons}
use Rattle.std.proofs.lemmas.List.Sums.{fold_push}
use Rattle.gcc_units.specs.declared.limits.TheConstants.{GREATEST_MOMENT, MOST_WAITING, MOST_SENDS}
use Rattle.rtp_wire.specs.declared.packet.WireFault.{WireFault}
use Rattle.rtp_wire.specs.Place.{place_of}
use Rattle.twcc_report.specs.declared.fault.ReportFault.{ReportFault}
use Rattle.twcc_report.specs.Spelling.{Feedback}
use Rattle.twcc_report.specs.Reading.{read_of}
use Rattle.pacer.specs.declared.sent.Sent.{Sent}
use Rattle.pacer.specs.Pace.{paced}
use Rattle.pacer.proofs.Sends.{paced-few}
use Rattle.send_core.specs.declared.call.Call.{Call}
use Rattle.send_core.specs.declared.call.Call.TheVariants.{Enqueue, Pace, Report, Configure}
use Rattle.send_core.specs.declared.call.Reply.{Reply}
use Rattle.send_core.specs.declared.call.Reply.TheVariants.{Accepted, Refused}
use Rattle.send_core.specs.declared.call.Cause.TheVariants as cause
use Rattle.send_core.specs.declared.call.Entry.{Entry}
use Rattle.send_core.specs.History.{entry, at_of, later, now, accepted, waiting}
use Rattle.send_core.specs.Settings.{fault_of}
use Rattle.send_core.specs.Reply.{extension_id, enqueued, reported, configured, standing, terms_at, standing_at, reply_in_time, reply}
use Rattle.call_trace.specs.Making.{moments_by}

abbrev pub is_pace : Call → Bool
is_pace (Enqueue at class wire) = false
is_pace (Pace at) = true
is_pace (Report at bytes) = false
is_pace (Configure at change) = false

-- a call that is no pace sends nothing
quiet-in_time : (h : List Entry) (m : ℕ) (c : Call) → is_pace c ≡ false → moments_by (reply_in_time h m c) ≡ []
quiet-in_time h m (Enqueue at class wire) quiet = by_place (place_of (extension_id h) wire.items)
  where
    by_test : (b : Bool) → moments_by (cond b (Accepted m (length (accepted h))) (Refused m (cause.QueueFull MOST_WAITING))) ≡ []
    by_test true = refl
    by_test false = refl

    by_place : (o : Result ℕ WireFault) → moments_by (enqueued h m o) ≡ []
    by_place (Err fault) = refl
    by_place (Ok place) = by_test (nat_lt (length (waiting h)) MOST_WAITING)
quiet-in_time h m (Pace at) quiet = cc
quiet-in_time h m (Report at bytes) quiet = by_read (read_of bytes.items)
  where
    by_read : (o : Result Feedback ReportFault) → moments_by (reported h m o) ≡ []
    by_read (Err fault) = refl
    by_read (Ok report) = refl
quiet-in_time h m (Configure at change) quiet = by_check (fault_of (standing h) change)
  where
    by_check : (o : Option ℕ) → moments_by (configured h m change o) ≡ []
    by_check None = refl
    by_check (Some check) = refl

pub quiet-sends : (h : List Entry) (c : Call) → is_pace c ≡ false → moments_by (reply h c) ≡ []
quiet-sends h c quiet = by_time (nat_lt GREATEST_MOMENT (at_of c))
  where
    by_time : (b : Bool) → moments_by (cond b (Refused (now h) cause.MomentTooLarge) (reply_in_time h (later (now h) c) c)) ≡ []
    by_time true = refl
    by_time false = quiet-in_time h (later (now h) c) c quiet

-- what is sent at a moment, and at most so much
pub record IsAt (moment most : ℕ) (sends : List ℕ) : Type 0 where
  pub few : length sends ≤ most
  pub each : All (λ sent_at. sent_at ≡ moment) sends

all-at : (moment : ℕ) (records : List Sent) → All (λ sent_at. sent_at ≡ moment) (map (λ (r : Sent). moment) records)
all-at moment [] = All-nil (λ sent_at. sent_at ≡ moment)
all-at moment (r ∷ records) = All-cons (λ sent_at. sent_at ≡ moment) moment (map (λ (x : Sent). moment) records) refl (all-at moment records)

-- a pace that comes no later than its moment sends at that moment
pub pace-sends : (h : List Entry) (at : ℕ) → now h ≤ at → IsAt at MOST_SENDS (moments_by (reply h (Pace at)))
pace-sends h at early = by_time (nat_lt GREATEST_MOMENT at) refl
  where
    by_time : (b : Bool) → nat_lt GREATEST_MOMENT at ≡ b → IsAt at MOST_SENDS (moments_by (cond b (Refused (now h) cause.MomentTooLarge) (reply_in_time h (later (now h) (Pace at)) (Pace at))))
    by_time true large = record { few = omega arith; each = All-nil (λ sent_at. sent_at ≡ at) }
    by_time false small =
        let m : ℕ = later (now h) (Pace at) in
        let is : m ≡ at = ap (λ (b : Bool). cond b (now h) (max (now h) at)) small ∙ (omega arith) in
        let records : List Sent = paced MOST_SENDS (terms_at h m) (standing_at h m) in
        record {
          few = omega (arith, length-map records (λ (r : Sent). m), paced-few MOST_SENDS (terms_at h m) (standing_at h m));
          each = subst (λ n. All (λ sent_at. sent_at ≡ n) (map (λ (r : Sent). m) records)) is (all-at m records);
        }

-- the moment of one entry more
pub now-after : (h : List Entry) (c : Call) (given : Reply) (bound : ℕ) → now h ≤ bound → at_of c ≤ bound → now (h ++ entry 0 c given ∷ []) ≤ bound
now-after h c given bound before here =
    subst (λ n. n ≤ bound) (sym (fold_push (λ m (e : Entry). later m e.call) 0 h (entry 0 c given))) (by_time (nat_lt GREATEST_MOMENT (at_of c)))
  where
    by_time : (b : Bool) → cond b (now h) (max (now h) (at_of c)) ≤ bound
    by_time true = before
    by_time false = omega arith
