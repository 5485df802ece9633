-- The reports that were served tell of each number when it was delivered.
use Rattle.std.proofs.Common.{◌≡◌, ℕ, ℤ, suc, zero, ◌+◌, ◌-◌, ◌%◌, ◌≤◌, ◌&&◌, Bool, true, false, not, nat_lt, if◌then◌else◌, Option, List, [], ◌∷◌, ◌++◌, length, map, refl, sym, ◌∙◌, ap, subst, append-nil, append_assoc, arith, length-append}
use Rattle.std.specs.Prelude.{◌==◌}
use Rattle.std.proofs.lemmas.List.{map-append, length-map}
use Rattle.gcc_units.specs.declared.class.Class.TheVariants.{Audio, Video}
use Rattle.gcc_units.specs.declared.limits.TheConstants.{MOST_ENTRIES}
use Rattle.gcc_units.specs.Listed.{bare}
use Rattle.gcc_units.proofs.Walk.{flat_map-push}
use Rattle.twcc_report.specs.Spelling.{Feedback}
use Rattle.twcc_report.specs.Canonical.{canonical}
use Rattle.pacer.specs.declared.sent.Sent.{Sent}
use Rattle.send_core.specs.declared.call.Call.{Call}
use Rattle.send_core.specs.declared.call.Call.TheVariants as call
use Rattle.send_core.specs.History.{sent, sent_by}
use Rattle.send_core.specs.Estimates.{target}
use Rattle.send_core.specs.Reply.{reply}
use Rattle.call_trace.specs.MadePackets.{audio_packet, video_packet, frame_packets, packet_bytes}
use Rattle.call_trace.specs.Making.{is_audio, is_video, moment, opening, is_frame_due}
use Rattle.call_trace.specs.Making as made
use Rattle.link_path.specs.declared.TheConstants.{GREATEST_TAKEN}
use Rattle.link_path.specs.declared.link.LinkSettings.{LinkSettings}
use Rattle.link_path.specs.declared.link.Arrival.{Arrival}
use Rattle.link_path.specs.Link.{Event, offered, offers, given, held, delivered, arrivals, free_after}
use Rattle.link_path.specs.Link as link
use Rattle.link_path.specs.KeptLink.{IsLink, RisesBetween}
use Rattle.link_path.specs.Division.{Run, last_time}
use Rattle.link_path.specs.Receiver.{KeptReceiver, heard, next_from, next_reports, told_all}
use Rattle.link_path.specs.Told.{told, all_told, statuses_in, AreBased, times_of, TimesRise}
use Rattle.link_path.proofs.Offered.{delivered-push}
use Rattle.link_path.proofs.LinkRuns.{whole, arrivals-rise}
use Rattle.link_path.proofs.Telling.{as_told, signed, RunRises, rises-behind, told-next, based-next, based-push, told-length, NumbersFrom, numbers-of, heard-append, heard-length, heard-rises, heard-times, front-times}
use Rattle.link_loop.specs.declared.TheConstants.{SOURCES, PACER, REPORTER, OPENER, MOST_MILLIS}
use Rattle.link_loop.specs.Looping.{Looping, is_open, grown, ended, asked, with_opening, with_arrivals, served, all_served, with_reports, with_audio, with_video, with_packets, with_frame, offered_at, with_offers, paced, with_pace, all_due, millisecond, looping}
use Rattle.link_loop.specs.Kept.{IsInOrder}
use Rattle.link_loop.proofs.Offering.{next-append, rise-given}
use Rattle.link_loop.proofs.Order.{order-opening, order-arrivals, order-looping}

-- ---- what leaves the receiver, its reports and what was delivered as they are

pub record IsStill (s : LinkSettings) (m n : Looping) : Type 0 where
  receiver : n.receiver ≡ m.receiver
  reports : n.reports ≡ m.reports
  out : delivered s n.events ≡ delivered s m.events
  over : n.over ≡ false → m.over ≡ false

still-same : (s : LinkSettings) (m : Looping) → IsStill s m m
still-same s m = record { receiver = refl; reports = refl; out = refl; over = λ h. h }

still-then : (s : LinkSettings) (l m n : Looping) → IsStill s l m → IsStill s m n → IsStill s l n
still-then s l m n a b =
    record { receiver = b.receiver ∙ a.receiver; reports = b.reports ∙ a.reports; out = b.out ∙ a.out; over = λ h. a.over (b.over h) }

still-ended : (s : LinkSettings) (m : Looping) → IsStill s m (ended m)
still-ended s m = record { receiver = refl; reports = refl; out = refl; over = λ h. absurd cc }

still-asked : (s : LinkSettings) (caller : ℕ) (c : Call) (m : Looping) → IsStill s m (asked caller c m)
unfolding asked
still-asked s caller c m = by_open (is_open m)
  where
    by_open : (b : Bool) → IsStill s m (if b then grown caller c m else ended m)
    by_open true = record { receiver = refl; reports = refl; out = refl; over = λ h. h }
    by_open false = still-ended s m

pub still-opening : (s : LinkSettings) (t : ℕ) (m : Looping) → IsStill s m (with_opening t m)
unfolding with_opening
still-opening s t m = by_due (t == 0)
  where
    by_due : (b : Bool) → IsStill s m (if b then asked OPENER (call.Configure (moment t) opening) m else m)
    by_due true = still-asked s OPENER (call.Configure (moment t) opening) m
    by_due false = still-same s m

still-audio : (s : LinkSettings) (t : ℕ) (m : Looping) → IsStill s m (with_audio t m)
unfolding with_audio
still-audio s t m = by_due (t % 20 == 0)
  where
    c : Call
    c = call.Enqueue (moment t) Audio (bare (audio_packet (made.count_of is_audio m.history) t))

    by_due : (b : Bool) → IsStill s m (if b then asked SOURCES c m else m)
    by_due true = still-asked s SOURCES c m
    by_due false = still-same s m

still-packets : (s : LinkSettings) (t size n : ℕ) (m : Looping) → IsStill s m (with_packets t size n m)
unfolding with_packets with_video
still-packets s t size zero m = still-same s m
still-packets s t size (suc n) m =
    let before : Looping = with_packets t size n m in
    let c : Call = call.Enqueue (moment t) Video (bare (video_packet (made.count_of is_video before.history) t size)) in
    still-then s m before (asked SOURCES c before) (still-packets s t size n m) (still-asked s SOURCES c before)

still-frame : (s : LinkSettings) (t : ℕ) (m : Looping) → IsStill s m (with_frame t m)
unfolding with_frame
still-frame s t m = by_due (is_frame_due t)
  where
    by_due : (b : Bool) → IsStill s m (if b then with_packets t (packet_bytes (target m.history)) (frame_packets (target m.history)) m else m)
    by_due true = still-packets s t (packet_bytes (target m.history)) (frame_packets (target m.history)) m
    by_due false = still-same s m

same-offers : (s : LinkSettings) (now : ℕ) (rs : List Sent) (events : List Event) → delivered s (events ++ map (offered_at now) rs) ≡ delivered s events
same-offers s now [] events = ap (delivered s) (append-nil events)
same-offers s now (r ∷ rs) events =
    ap (delivered s) (sym (append_assoc events (offered_at now r ∷ []) (map (offered_at now) rs)))
    ∙ same-offers s now rs (events ++ offered_at now r ∷ [])
    ∙ delivered-push s events (offered_at now r)
    ∙ append-nil (delivered s events)

still-paced : (s : LinkSettings) (t : ℕ) (m : Looping) → IsStill s m (paced t m)
unfolding paced
still-paced s t m = by_open (is_open m)
  where
    c : Call
    c = call.Pace (moment t)

    by_open : (b : Bool) → IsStill s m (if b then with_offers (moment t) (sent_by (reply m.history c)) (grown PACER c m) else ended m)
    by_open true = record { receiver = refl; reports = refl; out = same-offers s (moment t) (sent_by (reply m.history c)) m.events; over = λ h. h }
    by_open false = still-ended s m

still-pace : (s : LinkSettings) (t : ℕ) (m : Looping) → IsStill s m (with_pace t m)
unfolding with_pace
still-pace s t m = by_due (t % 5 == 0)
  where
    by_due : (b : Bool) → IsStill s m (if b then paced t m else m)
    by_due true = still-paced s t m
    by_due false = still-same s m

-- ---- what was reported

-- Behind what was put into reports stands what the receiver took since. Of the reports some at the end were not served, where the loop is over.
pub record IsReported (k : KeptReceiver) (reports : List Feedback) (out : List Arrival) (over : Bool) : Type 0 where
  pub before : Run
  pub unserved : List (Option ℤ)
  pub whole : before ++ heard k.from k.taken ≡ heard 0 out
  pub told : all_told reports ++ unserved ≡ as_told before
  pub none : over ≡ false → unserved ≡ []
  pub count : length before ≡ k.from
  pub based : AreBased 0 reports
  pub numbers : NumbersFrom 0 out
  pub next : next_from 0 out ≡ next_from k.from k.taken

pub reported-still : (s : LinkSettings) (m n : Looping) → IsStill s m n → IsReported m.receiver m.reports (delivered s m.events) m.over → IsReported n.receiver n.reports (delivered s n.events) n.over
reported-still s m n still r =
    rw (still.receiver, still.reports, still.out) (record {
      before = r.before;
      unserved = r.unserved;
      whole = r.whole;
      told = r.told;
      none = λ h. r.none (still.over h);
      count = r.count;
      based = r.based;
      numbers = r.numbers;
      next = r.next;
    })

-- ---- arrivals

numbers-append : (from : ℕ) (xs ys : List Arrival) → NumbersFrom from xs → NumbersFrom (next_from from xs) ys → NumbersFrom from (xs ++ ys)
numbers-append from [] ys a b = b
numbers-append from (x ∷ xs) ys a b = (a.0, numbers-append (x.number + 1) xs ys a.1 b)

reported-taken : (k : KeptReceiver) (reports : List Feedback) (out g : List Arrival) (over : Bool) → NumbersFrom (next_from k.from k.taken) g → IsReported k reports out over
    → IsReported (record k { taken = k.taken ++ g }) reports (out ++ g) over
reported-taken k reports out g over numbers r =
    let P : ℕ → Type 0 = λ n. NumbersFrom n g in
    record {
      before = r.before;
      unserved = r.unserved;
      whole =
          ap (λ (run : Run). r.before ++ run) (heard-append k.from k.taken g)
          ∙ sym (append_assoc r.before (heard k.from k.taken) (heard (next_from k.from k.taken) g))
          ∙ ap (λ (run : Run). run ++ heard (next_from k.from k.taken) g) r.whole
          ∙ ap (λ n. heard 0 out ++ heard n g) (sym r.next)
          ∙ sym (heard-append 0 out g);
      told = r.told;
      none = r.none;
      count = r.count;
      based = r.based;
      numbers = numbers-append 0 out g r.numbers (subst P (sym r.next) numbers);
      next = next-append 0 out g ∙ ap (λ n. next_from n g) r.next ∙ sym (next-append k.from k.taken g);
    }

pub reported-arrivals : (s : LinkSettings) (t : ℕ) (m : Looping) → moment t ≤ GREATEST_TAKEN → IsInOrder s m → IsReported m.receiver m.reports (delivered s m.events) m.over
    → IsReported (with_arrivals s t m).receiver (with_arrivals s t m).reports (delivered s (with_arrivals s t m).events) (with_arrivals s t m).over
unfolding with_arrivals
reported-arrivals s t m early order r =
    let low : ℕ = next_from m.receiver.from m.receiver.taken in
    let g : List Arrival = given s m.events (link.asked (moment t)) in
    let numbers : NumbersFrom low g = numbers-of low g (rise-given (moment t) low (held s m.events) (length (sent m.history)) early order.rise) in
    let P : List Arrival → Type 0 = λ xs. IsReported (record m.receiver { taken = m.receiver.taken ++ g }) m.reports xs m.over in
    subst P (sym (delivered-push s m.events (link.asked (moment t)))) (reported-taken m.receiver m.reports (delivered s m.events) g m.over numbers r)

-- ---- reports

-- these are still to be served
pub record IsServing (all : List (Option ℤ)) (reports fs : List Feedback) (over : Bool) : Type 0 where
  pub unserved : List (Option ℤ)
  pub told : all_told reports ++ unserved ≡ all
  pub none : over ≡ false → unserved ≡ all_told fs
  pub based : AreBased 0 reports
  pub next : over ≡ false → AreBased (length (statuses_in reports)) fs

pub open-by : (over room : Bool) → (not over && room) ≡ true → over ≡ false
open-by true room e = absurd cc
open-by false room e = refl

pub serving-served : (t : ℕ) (f : Feedback) (fs : List Feedback) (all : List (Option ℤ)) (m : Looping) → IsServing all m.reports (f ∷ fs) m.over
    → IsServing all (served t f m).reports fs (served t f m).over
unfolding served
serving-served t f fs all m r = by_open (is_open m) refl
  where
    c : Call
    c = call.Report (moment t) (bare (canonical f))

    by_open : (b : Bool) → is_open m ≡ b
        → IsServing all (if b then record (grown REPORTER c m) { reports = m.reports ++ f ∷ [] } else ended m).reports fs (if b then record (grown REPORTER c m) { reports = m.reports ++ f ∷ [] } else ended m).over
    by_open true e =
        let opened : m.over ≡ false = open-by m.over (nat_lt (length m.history) MOST_ENTRIES) e in
        let place : f.base ≡ (0 + length (statuses_in m.reports)) % 65536 = omega (arith, (r.next opened).0) in
        let more : length (statuses_in m.reports) + length f.statuses ≡ length (statuses_in (m.reports ++ f ∷ [])) =
        omega (arith, ap length (flat_map-push (λ (g : Feedback). g.statuses) m.reports f), length-append (statuses_in m.reports) f.statuses) in
        let P : ℕ → Type 0 = λ n. AreBased n fs in
        record {
          unserved = all_told fs;
          told =
              ap (λ (ts : List (Option ℤ)). ts ++ all_told fs) (flat_map-push told m.reports f)
              ∙ append_assoc (all_told m.reports) (told f) (all_told fs)
              ∙ ap (λ (ts : List (Option ℤ)). all_told m.reports ++ ts) (sym (r.none opened))
              ∙ r.told;
          none = λ h. refl;
          based = based-push 0 m.reports f r.based place;
          next = λ h. subst P more (r.next opened).1;
        }
    by_open false e = record { unserved = r.unserved; told = r.told; none = λ h. absurd cc; based = r.based; next = λ h. absurd cc }

serving-all : (t : ℕ) (fs : List Feedback) (all : List (Option ℤ)) (m : Looping) → IsServing all m.reports fs m.over
    → IsServing all (all_served t fs m).reports [] (all_served t fs m).over
serving-all t [] all m r = r
serving-all t (f ∷ fs) all m r = serving-all t fs all (served t f m) (serving-served t f fs all m r)

record IsKept (m n : Looping) : Type 0 where
  receiver : n.receiver ≡ m.receiver
  events : n.events ≡ m.events

kept-served : (t : ℕ) (f : Feedback) (m : Looping) → IsKept m (served t f m)
unfolding served
kept-served t f m = by_open (is_open m)
  where
    by_open : (b : Bool) → IsKept m (if b then record (grown REPORTER (call.Report (moment t) (bare (canonical f))) m) { reports = m.reports ++ f ∷ [] } else ended m)
    by_open true = record { receiver = refl; events = refl }
    by_open false = record { receiver = refl; events = refl }

kept-all : (t : ℕ) (fs : List Feedback) (m : Looping) → IsKept m (all_served t fs m)
kept-all t [] m = record { receiver = refl; events = refl }
kept-all t (f ∷ fs) m =
    let one : IsKept m (served t f m) = kept-served t f m in
    let more : IsKept (served t f m) (all_served t fs (served t f m)) = kept-all t fs (served t f m) in
    record { receiver = more.receiver ∙ one.receiver; events = more.events ∙ one.events }

pub serving-first : (k : KeptReceiver) (reports : List Feedback) (out : List Arrival) (over : Bool) → RunRises 0 (heard 0 out) → (r : IsReported k reports out over)
    → IsServing (as_told (heard 0 out)) reports (next_reports k) over
serving-first k reports out over rises r =
    let fresh : Run = heard k.from k.taken in
    let all : all_told (next_reports k) ≡ as_told fresh =
    told-next k (last_time 0 r.before) (rises-behind 0 r.before fresh (subst (RunRises 0) (sym r.whole) rises)) in
    record {
      unserved = r.unserved ++ all_told (next_reports k);
      told =
          sym (append_assoc (all_told reports) r.unserved (all_told (next_reports k)))
          ∙ ap (λ (ts : List (Option ℤ)). ts ++ all_told (next_reports k)) r.told
          ∙ ap (λ (ts : List (Option ℤ)). as_told r.before ++ ts) all
          ∙ sym (map-append signed r.before fresh)
          ∙ ap as_told r.whole;
      none = λ h. ap (λ (ts : List (Option ℤ)). ts ++ all_told (next_reports k)) (r.none h);
      based = r.based;
      next = λ h.
          let P : ℕ → Type 0 = λ n. AreBased n (next_reports k) in
          let long : length (all_told reports) + length r.unserved ≡ length r.before =
          sym (length-append (all_told reports) r.unserved) ∙ ap length r.told ∙ length-map r.before signed in
          let none : length r.unserved ≡ 0 = ap length (r.none h) in
          let same : k.from ≡ length (statuses_in reports) = omega (arith, long, none, r.count, told-length reports) in
          subst P same (based-next k);
    }

serving-last : (k : KeptReceiver) (reports more : List Feedback) (out : List Arrival) (over then_ : Bool) → IsReported k reports out over
    → IsServing (as_told (heard 0 out)) more [] then_ → IsReported (told_all k) more out then_
serving-last k reports more out over then_ r serving =
    record {
      before = heard 0 out;
      unserved = serving.unserved;
      whole = append-nil (heard 0 out);
      told = serving.told;
      none = serving.none;
      count = omega (arith, heard-length 0 out r.numbers, r.next);
      based = serving.based;
      numbers = r.numbers;
      next = r.next;
    }

times-front : (low : ℕ) (xs ys : List Arrival) (high : ℕ) → RisesBetween low (xs ++ ys) high → TimesRise low xs
times-front low [] ys high r = tt
times-front low (x ∷ xs) ys high r = (omega (arith, r.0), times-front x.at xs ys high r.1)

pub out-rises : (s : LinkSettings) (m : Looping) → IsInOrder s m → RunRises 0 (heard 0 (delivered s m.events))
out-rises s m order =
    let high : ℕ = free_after s (offers m.events) + s.delay in
    let P : List Arrival → Type 0 = λ xs. RisesBetween 0 xs high in
    let all : RisesBetween 0 (delivered s m.events ++ held s m.events) high =
    subst P (sym (whole s m.events order.link order.bytes)) (arrivals-rise s (offers m.events) order.link order.bytes) in
    heard-rises 0 0 0 (delivered s m.events) (times-front 0 (delivered s m.events) (held s m.events) high all) (omega arith)

reported-reports : (s : LinkSettings) (t : ℕ) (m : Looping) → IsInOrder s m → IsReported m.receiver m.reports (delivered s m.events) m.over
    → IsReported (with_reports t m).receiver (with_reports t m).reports (delivered s (with_reports t m).events) (with_reports t m).over
unfolding with_reports
reported-reports s t m order r = by_due (t % 50 == 40)
  where
    first : Looping
    first = record m { receiver = told_all m.receiver }

    fs : List Feedback
    fs = next_reports m.receiver

    last : Looping
    last = all_served t fs first

    done : IsReported last.receiver last.reports (delivered s last.events) last.over
    done =
        let serving : IsServing (as_told (heard 0 (delivered s m.events))) last.reports [] last.over =
        serving-all t fs (as_told (heard 0 (delivered s m.events))) first (serving-first m.receiver m.reports (delivered s m.events) m.over (out-rises s m order) r) in
        let kept : IsKept first last = kept-all t fs first in
        let there : IsReported (told_all m.receiver) last.reports (delivered s m.events) last.over =
        serving-last m.receiver m.reports last.reports (delivered s m.events) m.over last.over r serving in
        let P : KeptReceiver → Type 0 = λ k. IsReported k last.reports (delivered s last.events) last.over in
        let Q : List Event → Type 0 = λ es. IsReported (told_all m.receiver) last.reports (delivered s es) last.over in
        subst P (sym kept.receiver) (subst Q (sym kept.events) there)

    by_due : (b : Bool) → IsReported (if b then last else m).receiver (if b then last else m).reports (delivered s (if b then last else m).events) (if b then last else m).over
    by_due true = done
    by_due false = r

-- ---- all milliseconds

reported-due : (s : LinkSettings) (t : ℕ) (m : Looping) → moment t ≤ GREATEST_TAKEN → IsInOrder s m → IsReported m.receiver m.reports (delivered s m.events) m.over
    → IsReported (all_due s t m).receiver (all_due s t m).reports (delivered s (all_due s t m).events) (all_due s t m).over
reported-due s t m early order r =
    let opened : Looping = with_opening t m in
    let arrived : Looping = with_arrivals s t opened in
    let reported : Looping = with_reports t arrived in
    let heard_ : Looping = with_audio t reported in
    let seen : Looping = with_frame t heard_ in
    let order_opened : IsInOrder s opened = order-opening s t m order in
    let order_arrived : IsInOrder s arrived = order-arrivals s t opened order_opened in
    reported-still s seen (with_pace t seen) (still-pace s t seen)
    (reported-still s heard_ seen (still-frame s t heard_)
    (reported-still s reported heard_ (still-audio s t reported)
    (reported-reports s t arrived order_arrived
    (reported-arrivals s t opened early order_opened
    (reported-still s m opened (still-opening s t m) r)))))

reported-millisecond : (s : LinkSettings) (t : ℕ) (m : Looping) → moment t ≤ GREATEST_TAKEN → IsInOrder s m → IsReported m.receiver m.reports (delivered s m.events) m.over
    → IsReported (millisecond s t m).receiver (millisecond s t m).reports (delivered s (millisecond s t m).events) (millisecond s t m).over
unfolding millisecond
reported-millisecond s t m early order r = by_over m.over
  where
    by_over : (b : Bool) → IsReported (if b then m else all_due s t m).receiver (if b then m else all_due s t m).reports (delivered s (if b then m else all_due s t m).events) (if b then m else all_due s t m).over
    by_over true = r
    by_over false = reported-due s t m early order r

pub reported-looping : (s : LinkSettings) (n : ℕ) → IsLink s → n ≤ MOST_MILLIS
    → IsReported (looping s n).receiver (looping s n).reports (delivered s (looping s n).events) (looping s n).over
unfolding looping
reported-looping s zero link_ few =
    record { before = []; unserved = []; whole = refl; told = refl; none = λ h. refl; count = refl; based = tt; numbers = tt; next = refl }
reported-looping s (suc n) link_ few =
    reported-millisecond s n (looping s n) (omega (arith, few)) (order-looping s n link_) (reported-looping s n link_ (omega (arith, few)))

-- ---- the statuses

pub told-delivered : (k : KeptReceiver) (reports : List Feedback) (out : List Arrival) (over : Bool) → IsReported k reports out over → all_told reports ≡ times_of out 0 (length (statuses_in reports))
told-delivered k reports out over r =
    let fresh : Run = heard k.from k.taken in
    front-times (all_told reports) (r.unserved ++ as_told fresh) out (next_from 0 out - 0)
    (sym (append_assoc (all_told reports) r.unserved (as_told fresh))
    ∙ ap (λ (ts : List (Option ℤ)). ts ++ as_told fresh) r.told
    ∙ sym (map-append signed r.before fresh)
    ∙ ap as_told r.whole
    ∙ heard-times 0 out r.numbers)
    ∙ ap (times_of out 0) (told-length reports)
