-- What was delivered has arrived by the last question to the link, and what is inside has not.
use Rattle.std.proofs.Common.{◌≡◌, ℕ, suc, zero, ◌+◌, ◌-◌, ◌%◌, ◌<◌, ◌≤◌, Bool, true, false, nat_le, if◌then◌else◌, List, [], ◌∷◌, ◌++◌, length, map, All, refl, sym, ◌∙◌, ap, subst, append-nil, append_assoc, arith}
use Rattle.std.specs.Prelude.{◌==◌}
use Rattle.std.specs.List.{filter}
use Rattle.std.proofs.lemmas.Bool.Decides.{nat_tests}
use Rattle.std.proofs.lemmas.List.Elements.{All-nil, All-cons, All-head, All-tail, All-push, All-append, All-weaker}
use Rattle.gcc_units.specs.declared.class.Class.TheVariants.{Audio, Video}
use Rattle.gcc_units.specs.Listed.{bare}
use Rattle.twcc_report.specs.Spelling.{Feedback}
use Rattle.twcc_report.specs.Canonical.{canonical}
use Rattle.pacer.specs.declared.sent.Sent.{Sent}
use Rattle.send_core.specs.declared.call.Call.{Call}
use Rattle.send_core.specs.declared.call.Call.TheVariants as call
use Rattle.send_core.specs.History.{sent, sent_by}
use Rattle.send_core.specs.Estimates.{target}
use Rattle.send_core.specs.Reply.{reply}
use Rattle.call_trace.specs.MadePackets.{audio_packet, video_packet, frame_packets, packet_bytes}
use Rattle.call_trace.specs.Making.{is_audio, is_video, moment, opening, is_frame_due}
use Rattle.call_trace.specs.Making as made
use Rattle.link_path.specs.declared.link.LinkSettings.{LinkSettings}
use Rattle.link_path.specs.declared.link.Arrival.{Arrival}
use Rattle.link_path.specs.Link.{Offer, Event, offered, offers, line_time, free_after, is_dropped, arrival_at, arrival_of, given, held, delivered, has_arrived, is_on_its_way}
use Rattle.link_path.specs.Link as link
use Rattle.link_path.specs.KeptLink.{IsLink}
use Rattle.link_path.specs.Receiver.{next_reports, told_all}
use Rattle.link_path.proofs.Offered.{held-push, delivered-push}
use Rattle.link_path.proofs.LinkRuns.{takes-time}
use Rattle.link_loop.specs.declared.TheConstants.{SOURCES, PACER, REPORTER, OPENER}
use Rattle.link_loop.specs.Looping.{Looping, is_open, grown, ended, asked, with_opening, with_arrivals, served, all_served, with_reports, with_audio, with_video, with_packets, with_frame, offer_of, offered_at, with_offers, paced, with_pace, all_due, millisecond, looping}
use Rattle.link_loop.specs.Kept.{IsInOrder}
use Rattle.link_loop.proofs.Sends.{AreFrom, sends-from}
use Rattle.link_loop.proofs.Order.{order-opening, order-arrivals, order-reports, order-audio, order-frame, order-looping}

abbrev IsBy : ℕ → Arrival → Type 0
IsBy last a = a.at ≤ last

abbrev IsAfter : ℕ → Arrival → Type 0
IsAfter last a = last < a.at

-- the last question was asked at this moment
record IsSplit (s : LinkSettings) (last : ℕ) (events : List Event) : Type 0 where
  out : All (IsBy last) (delivered s events)
  inside : All (IsAfter last) (held s events)

-- ---- a question

arrived-by : (at last : ℕ) → nat_le at last ≡ true → at ≤ last
arrived-by at last e = grind (arith, nat_tests)

late-by : (at last : ℕ) → nat_le at last ≡ false → last < at
late-by at last e = grind (arith, nat_tests)

all-arrived : (last : ℕ) (xs : List Arrival) → All (IsBy last) (filter (has_arrived last) xs)
all-arrived last [] = All-nil (IsBy last)
all-arrived last (a ∷ xs) = by_test (nat_le a.at last) refl (all-arrived last xs)
  where
    by_test : (b : Bool) → nat_le a.at last ≡ b → All (IsBy last) (filter (has_arrived last) xs) → All (IsBy last) (filter (has_arrived last) (a ∷ xs))
    by_test true e more = rw e (All-cons (IsBy last) a (filter (has_arrived last) xs) (arrived-by a.at last e) more)
    by_test false e more = rw e more

all-late : (last : ℕ) (xs : List Arrival) → All (IsAfter last) (filter (is_on_its_way last) xs)
all-late last [] = All-nil (IsAfter last)
all-late last (a ∷ xs) = by_test (nat_le a.at last) refl (all-late last xs)
  where
    by_test : (b : Bool) → nat_le a.at last ≡ b → All (IsAfter last) (filter (is_on_its_way last) xs) → All (IsAfter last) (filter (is_on_its_way last) (a ∷ xs))
    by_test true e more = rw e more
    by_test false e more = rw e (All-cons (IsAfter last) a (filter (is_on_its_way last) xs) (late-by a.at last e) more)

split-asked : (s : LinkSettings) (last now : ℕ) (events : List Event) → last ≤ now → IsSplit s last events → IsSplit s now (events ++ link.asked now ∷ [])
split-asked s last now events later split =
    record {
      out = subst (All (IsBy now)) (sym (delivered-push s events (link.asked now)))
          (All-append (IsBy now) (delivered s events) (filter (has_arrived now) (held s events))
          (All-weaker (IsBy last) (IsBy now) (λ a h. omega (arith, h, later)) (delivered s events) split.out) (all-arrived now (held s events)));
      inside = subst (All (IsAfter now)) (sym (held-push s events (link.asked now))) (all-late now (held s events));
    }

-- ---- offers

split-one : (now : ℕ) (b : Bool) (n at : ℕ) (xs : List Arrival) → now < at → All (IsAfter now) xs → All (IsAfter now) (xs ++ (if b then [] else record { number = n; at = at } ∷ []))
split-one now true n at xs h inside = rw append-nil inside
split-one now false n at xs h inside = All-push (IsAfter now) xs (record { number = n; at = at }) inside h

split-offers : (s : LinkSettings) (now n : ℕ) (rs : List Sent) (events : List Event) → IsLink s → AreFrom n rs → IsSplit s now events → IsSplit s now (events ++ map (offered_at now) rs)
split-offers s now n [] events link_ are split = subst (IsSplit s now) (sym (append-nil events)) split
split-offers s now n (r ∷ rs) events link_ are split =
    let o : Offer = offer_of now r in
    let time = takes-time s o link_ are.0.sendable.some in
    let one : IsSplit s now (events ++ offered o ∷ []) =
    record {
      out = subst (All (IsBy now)) (sym (delivered-push s events (offered o) ∙ append-nil (delivered s events))) split.out;
      inside = subst (All (IsAfter now)) (sym (held-push s events (offered o)))
          (split-one now (is_dropped s (offers events) o) o.number (arrival_at s (offers events) o) (held s events) (omega (arith, time)) split.inside);
    } in
    subst (IsSplit s now) (append_assoc events (offered o ∷ []) (map (offered_at now) rs)) (split-offers s now (n + 1) rs (events ++ offered o ∷ []) link_ are.1 one)

-- ---- what changes no event

same-asked : (caller : ℕ) (c : Call) (m : Looping) → (asked caller c m).events ≡ m.events
unfolding asked
same-asked caller c m = by_open (is_open m)
  where
    by_open : (b : Bool) → (if b then grown caller c m else ended m).events ≡ m.events
    by_open true = refl
    by_open false = refl

same-opening : (t : ℕ) (m : Looping) → (with_opening t m).events ≡ m.events
unfolding with_opening
same-opening t m = by_due (t == 0)
  where
    by_due : (b : Bool) → (if b then asked OPENER (call.Configure (moment t) opening) m else m).events ≡ m.events
    by_due true = same-asked OPENER (call.Configure (moment t) opening) m
    by_due false = refl

same-served : (t : ℕ) (f : Feedback) (m : Looping) → (served t f m).events ≡ m.events
unfolding served
same-served t f m = by_open (is_open m)
  where
    by_open : (b : Bool) → (if b then record (grown REPORTER (call.Report (moment t) (bare (canonical f))) m) { reports = m.reports ++ f ∷ [] } else ended m).events ≡ m.events
    by_open true = refl
    by_open false = refl

same-all_served : (t : ℕ) (fs : List Feedback) (m : Looping) → (all_served t fs m).events ≡ m.events
same-all_served t [] m = refl
same-all_served t (f ∷ fs) m = same-all_served t fs (served t f m) ∙ same-served t f m

same-reports : (t : ℕ) (m : Looping) → (with_reports t m).events ≡ m.events
unfolding with_reports
same-reports t m = by_due (t % 50 == 40)
  where
    by_due : (b : Bool) → (if b then all_served t (next_reports m.receiver) (record m { receiver = told_all m.receiver }) else m).events ≡ m.events
    by_due true = same-all_served t (next_reports m.receiver) (record m { receiver = told_all m.receiver })
    by_due false = refl

same-audio : (t : ℕ) (m : Looping) → (with_audio t m).events ≡ m.events
unfolding with_audio
same-audio t m = by_due (t % 20 == 0)
  where
    c : Call
    c = call.Enqueue (moment t) Audio (bare (audio_packet (made.count_of is_audio m.history) t))

    by_due : (b : Bool) → (if b then asked SOURCES c m else m).events ≡ m.events
    by_due true = same-asked SOURCES c m
    by_due false = refl

same-packets : (t size n : ℕ) (m : Looping) → (with_packets t size n m).events ≡ m.events
unfolding with_packets with_video
same-packets t size zero m = refl
same-packets t size (suc n) m =
    let before : Looping = with_packets t size n m in
    same-asked SOURCES (call.Enqueue (moment t) Video (bare (video_packet (made.count_of is_video before.history) t size))) before ∙ same-packets t size n m

same-frame : (t : ℕ) (m : Looping) → (with_frame t m).events ≡ m.events
unfolding with_frame
same-frame t m = by_due (is_frame_due t)
  where
    by_due : (b : Bool) → (if b then with_packets t (packet_bytes (target m.history)) (frame_packets (target m.history)) m else m).events ≡ m.events
    by_due true = same-packets t (packet_bytes (target m.history)) (frame_packets (target m.history)) m
    by_due false = refl

-- ---- a millisecond

split-paced : (s : LinkSettings) (t : ℕ) (m : Looping) → IsInOrder s m → IsSplit s (moment t) m.events → IsSplit s (moment t) (paced t m).events
unfolding paced
split-paced s t m order split = by_open (is_open m)
  where
    c : Call
    c = call.Pace (moment t)

    by_open : (b : Bool) → IsSplit s (moment t) (if b then with_offers (moment t) (sent_by (reply m.history c)) (grown PACER c m) else ended m).events
    by_open true = split-offers s (moment t) (length (sent m.history)) (sent_by (reply m.history c)) m.events order.link (sends-from m.history (moment t) order.fit) split
    by_open false = split

split-pace : (s : LinkSettings) (t : ℕ) (m : Looping) → IsInOrder s m → IsSplit s (moment t) m.events → IsSplit s (moment t) (with_pace t m).events
unfolding with_pace
split-pace s t m order split = by_due (t % 5 == 0)
  where
    by_due : (b : Bool) → IsSplit s (moment t) (if b then paced t m else m).events
    by_due true = split-paced s t m order split
    by_due false = split

split-due : (s : LinkSettings) (last t : ℕ) (m : Looping) → last ≤ moment t → IsInOrder s m → IsSplit s last m.events → IsSplit s (moment t) (all_due s t m).events
unfolding with_arrivals
split-due s last t m later order split =
    let opened : Looping = with_opening t m in
    let arrived : Looping = with_arrivals s t opened in
    let reported : Looping = with_reports t arrived in
    let heard : Looping = with_audio t reported in
    let seen : Looping = with_frame t heard in
    let order_opened = order-opening s t m order in
    let order_seen = order-frame s t heard (order-audio s t reported (order-reports s t arrived (order-arrivals s t opened order_opened))) in
    let same : seen.events ≡ opened.events ++ link.asked (moment t) ∷ [] = same-frame t heard ∙ same-audio t reported ∙ same-reports t arrived in
    let asked_ : IsSplit s (moment t) (opened.events ++ link.asked (moment t) ∷ []) =
    split-asked s last (moment t) opened.events later (subst (IsSplit s last) (sym (same-opening t m)) split) in
    split-pace s t seen order_seen (subst (IsSplit s (moment t)) (sym same) asked_)

-- after n milliseconds, where it was asked last in this one
record IsSplitAt (s : LinkSettings) (n : ℕ) (m : Looping) : Type 0 where
  last : ℕ
  early : last ≤ n - 1
  now : m.over ≡ false → last ≡ n - 1
  split : IsSplit s (moment last) m.events

open-not-over : (b : Bool) → b ≡ true → b ≡ false → ⊥
open-not-over true e h = absurd cc
open-not-over false e h = absurd cc

split-millisecond : (s : LinkSettings) (t : ℕ) (m : Looping) → IsInOrder s m → IsSplitAt s t m → IsSplitAt s (suc t) (millisecond s t m)
unfolding millisecond
split-millisecond s t m order split = by_over m.over refl
  where
    by_over : (b : Bool) → m.over ≡ b → IsSplitAt s (suc t) (if b then m else all_due s t m)
    by_over true is = record { last = split.last; early = omega (arith, split.early); now = λ h. absurd (open-not-over m.over is h); split = split.split }
    by_over false is = record { last = t; early = omega arith; now = λ h. omega arith; split = split-due s (moment split.last) t m (omega (arith, split.early)) order split.split }

split-looping : (s : LinkSettings) (n : ℕ) → IsLink s → IsSplitAt s n (looping s n)
unfolding looping
split-looping s zero link_ = record { last = 0; early = omega arith; now = λ h. refl; split = record { out = All-nil (IsBy 0); inside = All-nil (IsAfter 0) } }
split-looping s (suc n) link_ = split-millisecond s n (looping s n) (order-looping s n link_) (split-looping s n link_)

-- ---- the front of all arrivals

none-late : (last : ℕ) (xs : List Arrival) → All (IsAfter last) xs → filter (has_arrived last) xs ≡ []
none-late last [] late = refl
none-late last (a ∷ xs) late =
    let here : last < a.at = All-head (IsAfter last) a xs late in
    let e : nat_le a.at last ≡ false = grind (arith, nat_tests) in
    rw e (none-late last xs (All-tail (IsAfter last) a xs late))

front : (last : ℕ) (xs ys : List Arrival) → All (IsBy last) xs → All (IsAfter last) ys → filter (has_arrived last) (xs ++ ys) ≡ xs
front last [] ys out late = none-late last ys late
front last (a ∷ xs) ys out late =
    let here : a.at ≤ last = All-head (IsBy last) a xs out in
    let e : nat_le a.at last ≡ true = grind (arith, nat_tests) in
    rw e (ap (λ (zs : List Arrival). a ∷ zs) (front last xs ys (All-tail (IsBy last) a xs out) late))

-- what was delivered by a millisecond of the run
pub record IsFront (n : ℕ) (over : Bool) (out all : List Arrival) : Type 0 where
  pub last : ℕ
  pub early : last ≤ n - 1
  pub now : over ≡ false → last ≡ n - 1
  pub is : out ≡ filter (has_arrived (moment last)) all

pub front-looping : (s : LinkSettings) (n : ℕ) (all : List Arrival) → IsLink s → delivered s (looping s n).events ++ held s (looping s n).events ≡ all
    → IsFront n (looping s n).over (delivered s (looping s n).events) all
front-looping s n all link_ e =
    let at : IsSplitAt s n (looping s n) = split-looping s n link_ in
    record {
      last = at.last;
      early = at.early;
      now = at.now;
      is =
          sym (ap (filter (has_arrived (moment at.last))) (sym e)
          ∙ front (moment at.last) (delivered s (looping s n).events) (held s (looping s n).events) at.split.out at.split.inside);
    }
