-- What a run credits, millisecond by millisecond.
use Rattle.std.proofs.Common.{◌≡◌, ℕ, ℤ, suc, zero, ◌+◌, ◌%◌, ◌≤◌, Bool, true, false, nat_lt, if◌then◌else◌, Option, List, [], ◌∷◌, ◌++◌, length, All, refl, ap, arith, length-append}
use Rattle.std.specs.Prelude.{◌==◌}
use Rattle.std.proofs.lemmas.List.{length-map}
use Rattle.std.proofs.lemmas.List.Elements.{All-nil, All-cons, All-head, All-tail}
use Rattle.gcc_units.specs.Listed.{bare}
use Rattle.gcc_units.specs.Walk.{each_by}
use Rattle.gcc_units.specs.declared.class.Class.TheVariants.{Audio, Video}
use Rattle.gcc_units.specs.declared.limits.TheConstants.{KEPT_PACKETS, MOST_ENTRIES}
use Rattle.twcc_report.specs.Spelling.{Feedback}
use Rattle.twcc_report.specs.Canonical.{canonical}
use Rattle.send_core.specs.declared.call.Call.{Call}
use Rattle.send_core.specs.declared.call.Call.TheVariants as call
use Rattle.send_core.specs.History.{sent, sent_by}
use Rattle.send_core.specs.Estimates.{target}
use Rattle.send_core.specs.Reply.{reply}
use Rattle.call_trace.specs.MadePackets.{audio_packet, video_packet, frame_packets, packet_bytes}
use Rattle.call_trace.specs.Making.{is_audio, is_video, moment, opening, is_frame_due}
use Rattle.call_trace.specs.Making as made
use Rattle.link_path.specs.declared.TheConstants.{GREATEST_TAKEN}
use Rattle.link_path.specs.declared.link.LinkSettings.{LinkSettings}
use Rattle.link_path.specs.declared.link.Arrival.{Arrival}
use Rattle.link_path.specs.Link.{delivered, held}
use Rattle.link_path.specs.KeptLink.{IsLink}
use Rattle.link_path.specs.Division.{Run, Told, report_of, reference_of, runs_of}
use Rattle.link_path.specs.Receiver.{heard, next_from, told_before, next_reports, told_all}
use Rattle.link_path.specs.Told.{all_told, statuses_in}
use Rattle.link_path.proofs.Telling.{as_told, signed, told-length, heard-length}
use Rattle.link_loop.specs.declared.TheConstants.{SOURCES, PACER, REPORTER, OPENER, MOST_MILLIS}
use Rattle.link_loop.specs.Looping.{Looping, is_open, grown, ended, asked, with_opening, with_arrivals, served, all_served, with_reports, with_audio, with_video, with_packets, with_frame, with_offers, paced, with_pace, all_due, millisecond, looping}
use Rattle.link_loop.specs.Kept.{RiseWithin, IsRead, IsInOrder}
use Rattle.link_loop.proofs.Order.{sent-push, order-opening, order-arrivals, order-looping}
use Rattle.link_loop.proofs.Reported.{open-by, still-opening, IsReported, reported-still, reported-arrivals, IsServing, serving-served, serving-first, out-rises, reported-looping}
use Rattle.link_loop.proofs.Credited.{HasNoReport, IsNatural, MayBeCredited, credited-quiet, credited-report, credited-first}

abbrev Holds : Looping → Type 0
Holds m = MayBeCredited m.reports m.history

-- ---- calls that hand in no report

holds-grown : (caller : ℕ) (c : Call) (m : Looping) → HasNoReport c → Holds m → Holds (grown caller c m)
holds-grown caller c m quiet holds = λ few read. credited-quiet m.reports m.history caller c quiet (holds (omega (arith, few, sent-push m.history caller c)) read)

holds-asked : (caller : ℕ) (c : Call) (m : Looping) → HasNoReport c → Holds m → Holds (asked caller c m)
unfolding asked
holds-asked caller c m quiet holds = by_open (is_open m)
  where
    by_open : (b : Bool) → Holds (if b then grown caller c m else ended m)
    by_open true = holds-grown caller c m quiet holds
    by_open false = holds

holds-opening : (t : ℕ) (m : Looping) → Holds m → Holds (with_opening t m)
unfolding with_opening
holds-opening t m holds = by_due (t == 0)
  where
    by_due : (b : Bool) → Holds (if b then asked OPENER (call.Configure (moment t) opening) m else m)
    by_due true = holds-asked OPENER (call.Configure (moment t) opening) m tt holds
    by_due false = holds

holds-arrivals : (s : LinkSettings) (t : ℕ) (m : Looping) → Holds m → Holds (with_arrivals s t m)
unfolding with_arrivals
holds-arrivals s t m holds = holds

holds-audio : (t : ℕ) (m : Looping) → Holds m → Holds (with_audio t m)
unfolding with_audio
holds-audio t m holds = by_due (t % 20 == 0)
  where
    c : Call
    c = call.Enqueue (moment t) Audio (bare (audio_packet (made.count_of is_audio m.history) t))

    by_due : (b : Bool) → Holds (if b then asked SOURCES c m else m)
    by_due true = holds-asked SOURCES c m tt holds
    by_due false = holds

holds-packets : (t size n : ℕ) (m : Looping) → Holds m → Holds (with_packets t size n m)
unfolding with_packets with_video
holds-packets t size zero m holds = holds
holds-packets t size (suc n) m holds =
    let before : Looping = with_packets t size n m in
    holds-asked SOURCES (call.Enqueue (moment t) Video (bare (video_packet (made.count_of is_video before.history) t size))) before tt (holds-packets t size n m holds)

holds-frame : (t : ℕ) (m : Looping) → Holds m → Holds (with_frame t m)
unfolding with_frame
holds-frame t m holds = by_due (is_frame_due t)
  where
    by_due : (b : Bool) → Holds (if b then with_packets t (packet_bytes (target m.history)) (frame_packets (target m.history)) m else m)
    by_due true = holds-packets t (packet_bytes (target m.history)) (frame_packets (target m.history)) m holds
    by_due false = holds

holds-paced : (t : ℕ) (m : Looping) → Holds m → Holds (paced t m)
unfolding paced
holds-paced t m holds = by_open (is_open m)
  where
    c : Call
    c = call.Pace (moment t)

    by_open : (b : Bool) → Holds (if b then with_offers (moment t) (sent_by (reply m.history c)) (grown PACER c m) else ended m)
    by_open true = holds-grown PACER c m tt holds
    by_open false = holds

holds-pace : (t : ℕ) (m : Looping) → Holds m → Holds (with_pace t m)
unfolding with_pace
holds-pace t m holds = by_due (t % 5 == 0)
  where
    by_due : (b : Bool) → Holds (if b then paced t m else m)
    by_due true = holds-paced t m holds
    by_due false = holds

-- ---- reports

-- of the statuses that are told in all, those of the next report stand behind the ones before it
room-for : (all : List (Option ℤ)) (reports : List Feedback) (f : Feedback) (fs : List Feedback) (unserved : List (Option ℤ)) (sent_ : ℕ) → length all ≤ sent_
    → all_told reports ++ unserved ≡ all → unserved ≡ all_told (f ∷ fs) → length (statuses_in reports) + length f.statuses ≤ sent_
room-for all reports f fs unserved sent_ few told_are unserved_are =
    omega (
      arith,
      few,
      ap length told_are,
      length-append (all_told reports) unserved,
      ap length unserved_are,
      told-length reports,
      told-length (f ∷ fs),
      length-append f.statuses (statuses_in fs),
    )

holds-served : (t : ℕ) (f : Feedback) (fs : List Feedback) (all : List (Option ℤ)) (m : Looping) → moment t ≤ GREATEST_TAKEN → IsNatural f → length all ≤ length (sent m.history)
    → IsServing all m.reports (f ∷ fs) m.over → Holds m → Holds (served t f m)
unfolding served
holds-served t f fs all m early natural few serving holds = by_open (is_open m) refl
  where
    c : Call
    c = call.Report (moment t) (bare (canonical f))

    by_open : (b : Bool) → is_open m ≡ b → Holds (if b then record (grown REPORTER c m) { reports = m.reports ++ f ∷ [] } else ended m)
    by_open true e = λ kept read.
        let opened : m.over ≡ false = open-by m.over (nat_lt (length m.history) MOST_ENTRIES) e in
        let kept_before : length (sent m.history) ≤ KEPT_PACKETS = omega (arith, kept, sent-push m.history REPORTER c) in
        let room : length (statuses_in m.reports) + length f.statuses ≤ length (sent m.history) =
        room-for all m.reports f fs serving.unserved (length (sent m.history)) few serving.told (serving.none opened) in
        credited-report m.reports m.history REPORTER (moment t) f (omega (arith, early)) kept_before (serving.next opened).0 room natural (last-of m.reports f read)
        (holds kept_before (front-of m.reports f read))
      where
        front-of : (xs : List Feedback) (x : Feedback) → All IsRead (xs ++ x ∷ []) → All IsRead xs
        front-of [] x all_ = All-nil IsRead
        front-of (y ∷ xs) x all_ = All-cons IsRead y xs (All-head IsRead y (xs ++ x ∷ []) all_) (front-of xs x (All-tail IsRead y (xs ++ x ∷ []) all_))

        last-of : (xs : List Feedback) (x : Feedback) → All IsRead (xs ++ x ∷ []) → IsRead x
        last-of [] x all_ = All-head IsRead x [] all_
        last-of (y ∷ xs) x all_ = last-of xs x (All-tail IsRead y (xs ++ x ∷ []) all_)
    by_open false e = holds

more-sent : (t : ℕ) (f : Feedback) (m : Looping) → length (sent m.history) ≤ length (sent (served t f m).history)
unfolding served
more-sent t f m = by_open (is_open m)
  where
    c : Call
    c = call.Report (moment t) (bare (canonical f))

    by_open : (b : Bool) → length (sent m.history) ≤ length (sent (if b then record (grown REPORTER c m) { reports = m.reports ++ f ∷ [] } else ended m).history)
    by_open true = omega (arith, sent-push m.history REPORTER c)
    by_open false = omega arith

holds-all : (t : ℕ) (fs : List Feedback) (all : List (Option ℤ)) (m : Looping) → moment t ≤ GREATEST_TAKEN → All IsNatural fs → length all ≤ length (sent m.history)
    → IsServing all m.reports fs m.over → Holds m → Holds (all_served t fs m)
holds-all t [] all m early natural few serving holds = holds
holds-all t (f ∷ fs) all m early natural few serving holds =
    holds-all t fs all (served t f m) early (All-tail IsNatural f fs natural) (omega (arith, few, more-sent t f m)) (serving-served t f fs all m serving)
    (holds-served t f fs all m early (All-head IsNatural f fs natural) few serving holds)

all-natural : (earlier : Told) (before runs : List Run) → All IsNatural (each_by (report_of earlier) before runs)
all-natural earlier before [] = All-nil IsNatural
all-natural earlier before (run ∷ runs) =
    All-cons IsNatural (report_of earlier before run) (each_by (report_of earlier) (before ++ run ∷ []) runs) (record { value = reference_of earlier before run; is = refl })
    (all-natural earlier (before ++ run ∷ []) runs)

rise-low : (low : ℕ) (xs : List Arrival) (high : ℕ) → RiseWithin low xs high → low ≤ high
rise-low low [] high rise = rise
rise-low low (a ∷ later) high rise = omega (arith, rise.0, rise-low (a.number + 1) later high rise.1)

-- of all that was delivered each number was sent
told-sent : (s : LinkSettings) (m : Looping) → IsInOrder s m → IsReported m.receiver m.reports (delivered s m.events) m.over
    → length (as_told (heard 0 (delivered s m.events))) ≤ length (sent m.history)
told-sent s m order r =
    omega (
      arith,
      length-map (heard 0 (delivered s m.events)) signed,
      heard-length 0 (delivered s m.events) r.numbers,
      r.next,
      rise-low (next_from m.receiver.from m.receiver.taken) (held s m.events) (length (sent m.history)) order.rise,
    )

holds-reports : (s : LinkSettings) (t : ℕ) (m : Looping) → moment t ≤ GREATEST_TAKEN → IsInOrder s m → IsReported m.receiver m.reports (delivered s m.events) m.over → Holds m → Holds (with_reports t m)
unfolding with_reports
holds-reports s t m early order r holds = by_due (t % 50 == 40)
  where
    first : Looping
    first = record m { receiver = told_all m.receiver }

    by_due : (b : Bool) → Holds (if b then all_served t (next_reports m.receiver) first else m)
    by_due true =
        holds-all t (next_reports m.receiver) (as_told (heard 0 (delivered s m.events))) first early
        (all-natural (told_before m.receiver) [] (runs_of (heard m.receiver.from m.receiver.taken)))
        (told-sent s m order r)
        (serving-first m.receiver m.reports (delivered s m.events) m.over (out-rises s m order) r)
        holds
    by_due false = holds

-- ---- all milliseconds

holds-due : (s : LinkSettings) (t : ℕ) (m : Looping) → moment t ≤ GREATEST_TAKEN → IsInOrder s m → IsReported m.receiver m.reports (delivered s m.events) m.over → Holds m → Holds (all_due s t m)
holds-due s t m early order r holds =
    let opened : Looping = with_opening t m in
    let arrived : Looping = with_arrivals s t opened in
    let reported : Looping = with_reports t arrived in
    let heard_ : Looping = with_audio t reported in
    let seen : Looping = with_frame t heard_ in
    let order_opened : IsInOrder s opened = order-opening s t m order in
    let order_arrived : IsInOrder s arrived = order-arrivals s t opened order_opened in
    let r_arrived : IsReported arrived.receiver arrived.reports (delivered s arrived.events) arrived.over =
    reported-arrivals s t opened early order_opened (reported-still s m opened (still-opening s t m) r) in
    holds-pace t seen
    (holds-frame t heard_
    (holds-audio t reported
    (holds-reports s t arrived early order_arrived r_arrived
    (holds-arrivals s t opened (holds-opening t m holds)))))

holds-millisecond : (s : LinkSettings) (t : ℕ) (m : Looping) → moment t ≤ GREATEST_TAKEN → IsInOrder s m → IsReported m.receiver m.reports (delivered s m.events) m.over → Holds m → Holds (millisecond s t m)
unfolding millisecond
holds-millisecond s t m early order r holds = by_over m.over
  where
    by_over : (b : Bool) → Holds (if b then m else all_due s t m)
    by_over true = holds
    by_over false = holds-due s t m early order r holds

pub credited-looping : (s : LinkSettings) (n : ℕ) → IsLink s → n ≤ MOST_MILLIS → MayBeCredited (looping s n).reports (looping s n).history
unfolding looping
credited-looping s zero link_ few = λ kept read. credited-first
credited-looping s (suc n) link_ few =
    holds-millisecond s n (looping s n) (omega (arith, few)) (order-looping s n link_) (reported-looping s n link_ (omega (arith, few))) (credited-looping s n link_ (omega (arith, few)))
