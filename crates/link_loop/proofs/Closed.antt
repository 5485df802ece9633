-- What was offered and reported is told by the history.
use Rattle.std.proofs.Common.{◌≡◌, ℕ, suc, zero, ◌%◌, ◌≤◌, max, Bool, true, false, cond, nat_lt, if◌then◌else◌, List, [], ◌∷◌, ◌++◌, map, refl, sym, ◌∙◌, ap, append-nil, append_assoc, arith}
use Rattle.std.specs.Prelude.{◌==◌}
use Rattle.std.proofs.lemmas.Bool.Decides.{nat_tests}
use Rattle.std.proofs.lemmas.List.{map-append}
use Rattle.std.proofs.lemmas.List.Sums.{fold-append}
use Rattle.gcc_units.specs.declared.class.Class.TheVariants.{Audio, Video}
use Rattle.gcc_units.specs.declared.limits.TheConstants.{GREATEST_MOMENT, MOST_SENDS}
use Rattle.gcc_units.specs.Listed.{bare}
use Rattle.gcc_units.proofs.Walk.{flat_map-push}
use Rattle.twcc_report.specs.Spelling.{Feedback}
use Rattle.twcc_report.specs.Canonical.{canonical}
use Rattle.pacer.specs.declared.sent.Sent.{Sent}
use Rattle.pacer.specs.Pace as pace
use Rattle.send_core.specs.declared.call.Call.{Call}
use Rattle.send_core.specs.declared.call.Call.TheVariants as call
use Rattle.send_core.specs.declared.call.Reply.TheVariants as given
use Rattle.send_core.specs.declared.call.Cause.TheVariants as cause
use Rattle.send_core.specs.declared.call.Entry.{Entry}
use Rattle.send_core.specs.History.{entry, at_of, later, now, sent_by}
use Rattle.send_core.specs.Estimates.{target}
use Rattle.send_core.specs.Reply.{reply, reply_in_time, terms_at, standing_at}
use Rattle.call_trace.specs.MadePackets.{audio_packet, video_packet, frame_packets, packet_bytes}
use Rattle.call_trace.specs.Making.{is_audio, is_video, moment, opening, is_frame_due}
use Rattle.call_trace.specs.Making as made
use Rattle.link_path.specs.declared.link.LinkSettings.{LinkSettings}
use Rattle.link_path.specs.Link.{Offer, Event, offered, offers}
use Rattle.link_path.specs.Link as link
use Rattle.link_path.specs.Receiver.{next_reports, told_all}
use Rattle.link_path.proofs.Offered.{offers-push}
use Rattle.link_loop.specs.declared.TheConstants.{SOURCES, PACER, REPORTER, OPENER, MOST_MILLIS}
use Rattle.link_loop.specs.Looping.{Looping, is_open, grown, ended, asked, with_opening, with_arrivals, served, all_served, with_reports, with_audio, with_video, with_packets, with_frame, offer_of, offered_at, with_offers, paced, with_pace, all_due, millisecond, looping}
use Rattle.link_loop.specs.ClosedLoop.{offers_in, offers_of, report_in, reports_in}
use Rattle.link_loop.proofs.Quiet.{IsQuiet, quiet-reply}

-- up to the millisecond t
pub record IsTold (t : ℕ) (m : Looping) : Type 0 where
  pub time : now m.history ≤ moment t
  pub offered : offers m.events ≡ offers_of m.history
  pub spelled : reports_in m.history ≡ map canonical m.reports

-- ---- calls

later-at : (b : Bool) (before at : ℕ) → before ≤ at → (if b then before else max before at) ≤ at
later-at true before at h = h
later-at false before at h = omega (arith, h)

now-push : (h : List Entry) (caller : ℕ) (c : Call) (t : ℕ) → now h ≤ moment t → at_of c ≡ moment t → now (h ++ entry caller c (reply h c) ∷ []) ≤ moment t
now-push h caller c t before at_is =
    let is : now (h ++ entry caller c (reply h c) ∷ []) ≡ later (now h) c = fold-append (λ n (e : Entry). later n e.call) 0 h (entry caller c (reply h c) ∷ []) in
    let small : later (now h) c ≤ at_of c = later-at (nat_lt GREATEST_MOMENT (at_of c)) (now h) (at_of c) (omega (arith, before, at_is)) in
    omega (arith, is, small, at_is)

offers_of-push : (h : List Entry) (caller : ℕ) (c : Call) → offers_of (h ++ entry caller c (reply h c) ∷ []) ≡ offers_of h ++ offers_in (reply h c)
offers_of-push h caller c = flat_map-push (λ (e : Entry). offers_in e.reply) h (entry caller c (reply h c))

reports_in-push : (h : List Entry) (caller : ℕ) (c : Call) → reports_in (h ++ entry caller c (reply h c) ∷ []) ≡ reports_in h ++ report_in c
reports_in-push h caller c = flat_map-push (λ (e : Entry). report_in e.call) h (entry caller c (reply h c))

told-grown : (t caller : ℕ) (c : Call) (m : Looping) → at_of c ≡ moment t → IsQuiet c → report_in c ≡ [] → IsTold t m → IsTold t (grown caller c m)
told-grown t caller c m at_is quiet no_report told =
    record {
      time = now-push m.history caller c t told.time at_is;
      offered =
          told.offered ∙ sym (offers_of-push m.history caller c ∙ ap (λ (os : List Offer). offers_of m.history ++ os) (quiet-reply m.history c quiet) ∙ append-nil (offers_of m.history));
      spelled = reports_in-push m.history caller c ∙ ap (λ (bs : List (List ℕ)). reports_in m.history ++ bs) no_report ∙ append-nil (reports_in m.history) ∙ told.spelled;
    }

told-ended : (t : ℕ) (m : Looping) → IsTold t m → IsTold t (ended m)
told-ended t m told = record { time = told.time; offered = told.offered; spelled = told.spelled }

told-asked : (t caller : ℕ) (c : Call) (m : Looping) → at_of c ≡ moment t → IsQuiet c → report_in c ≡ [] → IsTold t m → IsTold t (asked caller c m)
unfolding asked
told-asked t caller c m at_is quiet no_report told = by_open (is_open m)
  where
    by_open : (b : Bool) → IsTold t (if b then grown caller c m else ended m)
    by_open true = told-grown t caller c m at_is quiet no_report told
    by_open false = told-ended t m told

-- ---- what is due

told-opening : (t : ℕ) (m : Looping) → IsTold t m → IsTold t (with_opening t m)
unfolding with_opening
told-opening t m told = by_due (t == 0)
  where
    by_due : (b : Bool) → IsTold t (if b then asked OPENER (call.Configure (moment t) opening) m else m)
    by_due true = told-asked t OPENER (call.Configure (moment t) opening) m refl tt refl told
    by_due false = told

told-arrivals : (s : LinkSettings) (t : ℕ) (m : Looping) → IsTold t m → IsTold t (with_arrivals s t m)
unfolding with_arrivals
told-arrivals s t m told =
    record { time = told.time; offered = offers-push m.events (link.asked (moment t)) ∙ append-nil (offers m.events) ∙ told.offered; spelled = told.spelled }

told-served : (t : ℕ) (f : Feedback) (m : Looping) → IsTold t m → IsTold t (served t f m)
unfolding served
told-served t f m told = by_open (is_open m)
  where
    c : Call
    c = call.Report (moment t) (bare (canonical f))

    by_open : (b : Bool) → IsTold t (if b then record (grown REPORTER c m) { reports = m.reports ++ f ∷ [] } else ended m)
    by_open true =
        record {
          time = now-push m.history REPORTER c t told.time refl;
          offered =
              told.offered ∙ sym (offers_of-push m.history REPORTER c ∙ ap (λ (os : List Offer). offers_of m.history ++ os) (quiet-reply m.history c tt) ∙ append-nil (offers_of m.history));
          spelled =
              reports_in-push m.history REPORTER c ∙ ap (λ (bs : List (List ℕ)). bs ++ canonical f ∷ []) told.spelled ∙ sym (map-append canonical m.reports (f ∷ []));
        }
    by_open false = told-ended t m told

told-all_served : (t : ℕ) (fs : List Feedback) (m : Looping) → IsTold t m → IsTold t (all_served t fs m)
told-all_served t [] m told = told
told-all_served t (f ∷ fs) m told = told-all_served t fs (served t f m) (told-served t f m told)

told-reports : (t : ℕ) (m : Looping) → IsTold t m → IsTold t (with_reports t m)
unfolding with_reports
told-reports t m told = by_due (t % 50 == 40)
  where
    by_due : (b : Bool) → IsTold t (if b then all_served t (next_reports m.receiver) (record m { receiver = told_all m.receiver }) else m)
    by_due true = told-all_served t (next_reports m.receiver) (record m { receiver = told_all m.receiver }) (record { time = told.time; offered = told.offered; spelled = told.spelled })
    by_due false = told

told-audio : (t : ℕ) (m : Looping) → IsTold t m → IsTold t (with_audio t m)
unfolding with_audio
told-audio t m told = by_due (t % 20 == 0)
  where
    c : Call
    c = call.Enqueue (moment t) Audio (bare (audio_packet (made.count_of is_audio m.history) t))

    by_due : (b : Bool) → IsTold t (if b then asked SOURCES c m else m)
    by_due true = told-asked t SOURCES c m refl tt refl told
    by_due false = told

told-packets : (t size n : ℕ) (m : Looping) → IsTold t m → IsTold t (with_packets t size n m)
unfolding with_packets with_video
told-packets t size zero m told = told
told-packets t size (suc n) m told =
    let before : Looping = with_packets t size n m in
    told-asked t SOURCES (call.Enqueue (moment t) Video (bare (video_packet (made.count_of is_video before.history) t size))) before refl tt refl (told-packets t size n m told)

told-frame : (t : ℕ) (m : Looping) → IsTold t m → IsTold t (with_frame t m)
unfolding with_frame
told-frame t m told = by_due (is_frame_due t)
  where
    by_due : (b : Bool) → IsTold t (if b then with_packets t (packet_bytes (target m.history)) (frame_packets (target m.history)) m else m)
    by_due true = told-packets t (packet_bytes (target m.history)) (frame_packets (target m.history)) m told
    by_due false = told

-- ---- a pace

offers-map : (at : ℕ) (rs : List Sent) (events : List Event) → offers (events ++ map (offered_at at) rs) ≡ offers events ++ map (offer_of at) rs
offers-map at [] events = ap offers (append-nil events) ∙ sym (append-nil (offers events))
offers-map at (r ∷ rs) events =
    ap offers (sym (append_assoc events (offered_at at r ∷ []) (map (offered_at at) rs))) ∙ offers-map at rs (events ++ offered_at at r ∷ [])
    ∙ ap (λ (os : List Offer). os ++ map (offer_of at) rs) (offers-push events (offered_at at r)) ∙ append_assoc (offers events) (offer_of at r ∷ []) (map (offer_of at) rs)

in-time : (h : List Entry) (at : ℕ) → at ≤ GREATEST_MOMENT → now h ≤ at → offers_in (reply h (call.Pace at)) ≡ map (offer_of at) (sent_by (reply h (call.Pace at)))
in-time h at early before = by_time (nat_lt GREATEST_MOMENT at) (grind (arith, nat_tests)) at_is
  where
    at_is : (if nat_lt GREATEST_MOMENT at then now h else max (now h) at) ≡ at
    at_is = let e : nat_lt GREATEST_MOMENT at ≡ false = grind (arith, nat_tests) in rw e (omega (arith, before))

    by_time : (b : Bool) → b ≡ false → later (now h) (call.Pace at) ≡ at
        → offers_in (cond b (given.Refused (now h) cause.MomentTooLarge) (reply_in_time h (later (now h) (call.Pace at)) (call.Pace at)))
        ≡ map (offer_of at) (sent_by (cond b (given.Refused (now h) cause.MomentTooLarge) (reply_in_time h (later (now h) (call.Pace at)) (call.Pace at))))
    by_time true e is = absurd cc
    by_time false e is =
        let records : List Sent = pace.paced MOST_SENDS (terms_at h (later (now h) (call.Pace at))) (standing_at h (later (now h) (call.Pace at))) in
        ap (λ n. map (offer_of n) records) is

told-paced : (t : ℕ) (m : Looping) → moment t ≤ GREATEST_MOMENT → IsTold t m → IsTold t (paced t m)
unfolding paced
told-paced t m early told = by_open (is_open m)
  where
    c : Call
    c = call.Pace (moment t)

    by_open : (b : Bool) → IsTold t (if b then with_offers (moment t) (sent_by (reply m.history c)) (grown PACER c m) else ended m)
    by_open true =
        record {
          time = now-push m.history PACER c t told.time refl;
          offered =
              offers-map (moment t) (sent_by (reply m.history c)) m.events ∙ ap (λ (os : List Offer). os ++ map (offer_of (moment t)) (sent_by (reply m.history c))) told.offered
              ∙ ap (λ (os : List Offer). offers_of m.history ++ os) (sym (in-time m.history (moment t) early told.time)) ∙ sym (offers_of-push m.history PACER c);
          spelled = reports_in-push m.history PACER c ∙ append-nil (reports_in m.history) ∙ told.spelled;
        }
    by_open false = told-ended t m told

told-pace : (t : ℕ) (m : Looping) → moment t ≤ GREATEST_MOMENT → IsTold t m → IsTold t (with_pace t m)
unfolding with_pace
told-pace t m early told = by_due (t % 5 == 0)
  where
    by_due : (b : Bool) → IsTold t (if b then paced t m else m)
    by_due true = told-paced t m early told
    by_due false = told

-- ---- all milliseconds

told-millisecond : (s : LinkSettings) (t : ℕ) (m : Looping) → moment t ≤ GREATEST_MOMENT → IsTold t m → IsTold t (millisecond s t m)
unfolding millisecond
told-millisecond s t m early told = by_over m.over
  where
    by_over : (b : Bool) → IsTold t (if b then m else all_due s t m)
    by_over true = told
    by_over false =
        told-pace t (with_frame t (with_audio t (with_reports t (with_arrivals s t (with_opening t m))))) early
        (told-frame t (with_audio t (with_reports t (with_arrivals s t (with_opening t m))))
        (told-audio t (with_reports t (with_arrivals s t (with_opening t m)))
        (told-reports t (with_arrivals s t (with_opening t m)) (told-arrivals s t (with_opening t m) (told-opening t m told)))))

told-later : (t : ℕ) (m : Looping) → IsTold t m → IsTold (suc t) m
told-later t m told = record { time = omega (arith, told.time); offered = told.offered; spelled = told.spelled }

pub told-looping : (s : LinkSettings) (n : ℕ) → n ≤ MOST_MILLIS → IsTold n (looping s n)
unfolding looping
told-looping s zero few = record { time = omega arith; offered = refl; spelled = refl }
told-looping s (suc n) few = told-later n (millisecond s n (looping s n)) (told-millisecond s n (looping s n) (omega (arith, few)) (told-looping s n (omega (arith, few))))
