-- A run is over only where the journal is full.
use Rattle.std.proofs.Common.{◌≡◌, ℕ, suc, zero, ◌%◌, ◌<◌, ◌≤◌, ◌&&◌, Bool, true, false, not, nat_lt, if◌then◌else◌, List, [], ◌∷◌, ◌++◌, length, refl, arith, length-append}
use Rattle.std.specs.Prelude.{◌==◌}
use Rattle.std.proofs.lemmas.Bool.Decides.{nat_tests}
use Rattle.gcc_units.specs.declared.class.Class.TheVariants.{Audio, Video}
use Rattle.gcc_units.specs.declared.limits.TheConstants.{MOST_ENTRIES}
use Rattle.gcc_units.specs.Listed.{bare}
use Rattle.twcc_report.specs.Spelling.{Feedback}
use Rattle.twcc_report.specs.Canonical.{canonical}
use Rattle.send_core.specs.declared.call.Call.{Call}
use Rattle.send_core.specs.declared.call.Call.TheVariants as call
use Rattle.send_core.specs.History.{entry, sent_by}
use Rattle.send_core.specs.Estimates.{target}
use Rattle.send_core.specs.Reply.{reply}
use Rattle.call_trace.specs.MadePackets.{audio_packet, video_packet, frame_packets, packet_bytes}
use Rattle.call_trace.specs.Making.{is_audio, is_video, moment, opening, is_frame_due}
use Rattle.call_trace.specs.Making as made
use Rattle.link_path.specs.declared.link.LinkSettings.{LinkSettings}
use Rattle.link_path.specs.Receiver.{next_reports, told_all}
use Rattle.link_loop.specs.declared.TheConstants.{SOURCES, PACER, REPORTER, OPENER}
use Rattle.link_loop.specs.Looping.{Looping, is_open, grown, ended, asked, with_opening, with_arrivals, served, all_served, with_reports, with_audio, with_video, with_packets, with_frame, with_offers, paced, with_pace, all_due, millisecond, looping}

abbrev IsFull : Looping → Type 0
IsFull m = m.over ≡ true → MOST_ENTRIES ≤ length m.history

closed-by : (over : Bool) (n : ℕ) → (not over && nat_lt n MOST_ENTRIES) ≡ false → (over ≡ true → MOST_ENTRIES ≤ n) → MOST_ENTRIES ≤ n
closed-by true n e full = full refl
closed-by false n e full = grind (arith, nat_tests, e)

full-ended : (m : Looping) → is_open m ≡ false → IsFull m → IsFull (ended m)
full-ended m e full = λ h. closed-by m.over (length m.history) e full

full-grown : (caller : ℕ) (c : Call) (m : Looping) → IsFull m → IsFull (grown caller c m)
full-grown caller c m full = λ h. omega (arith, full h, length-append m.history (entry caller c (reply m.history c) ∷ []))

full-asked : (caller : ℕ) (c : Call) (m : Looping) → IsFull m → IsFull (asked caller c m)
unfolding asked
full-asked caller c m full = by_open (is_open m) refl
  where
    by_open : (b : Bool) → is_open m ≡ b → IsFull (if b then grown caller c m else ended m)
    by_open true e = full-grown caller c m full
    by_open false e = full-ended m e full

full-opening : (t : ℕ) (m : Looping) → IsFull m → IsFull (with_opening t m)
unfolding with_opening
full-opening t m full = by_due (t == 0)
  where
    by_due : (b : Bool) → IsFull (if b then asked OPENER (call.Configure (moment t) opening) m else m)
    by_due true = full-asked OPENER (call.Configure (moment t) opening) m full
    by_due false = full

full-arrivals : (s : LinkSettings) (t : ℕ) (m : Looping) → IsFull m → IsFull (with_arrivals s t m)
unfolding with_arrivals
full-arrivals s t m full = full

full-served : (t : ℕ) (f : Feedback) (m : Looping) → IsFull m → IsFull (served t f m)
unfolding served
full-served t f m full = by_open (is_open m) refl
  where
    c : Call
    c = call.Report (moment t) (bare (canonical f))

    by_open : (b : Bool) → is_open m ≡ b → IsFull (if b then record (grown REPORTER c m) { reports = m.reports ++ f ∷ [] } else ended m)
    by_open true e = full-grown REPORTER c m full
    by_open false e = full-ended m e full

full-all : (t : ℕ) (fs : List Feedback) (m : Looping) → IsFull m → IsFull (all_served t fs m)
full-all t [] m full = full
full-all t (f ∷ fs) m full = full-all t fs (served t f m) (full-served t f m full)

full-reports : (t : ℕ) (m : Looping) → IsFull m → IsFull (with_reports t m)
unfolding with_reports
full-reports t m full = by_due (t % 50 == 40)
  where
    by_due : (b : Bool) → IsFull (if b then all_served t (next_reports m.receiver) (record m { receiver = told_all m.receiver }) else m)
    by_due true = full-all t (next_reports m.receiver) (record m { receiver = told_all m.receiver }) full
    by_due false = full

full-audio : (t : ℕ) (m : Looping) → IsFull m → IsFull (with_audio t m)
unfolding with_audio
full-audio t m full = by_due (t % 20 == 0)
  where
    c : Call
    c = call.Enqueue (moment t) Audio (bare (audio_packet (made.count_of is_audio m.history) t))

    by_due : (b : Bool) → IsFull (if b then asked SOURCES c m else m)
    by_due true = full-asked SOURCES c m full
    by_due false = full

full-packets : (t size n : ℕ) (m : Looping) → IsFull m → IsFull (with_packets t size n m)
unfolding with_packets with_video
full-packets t size zero m full = full
full-packets t size (suc n) m full =
    let before : Looping = with_packets t size n m in
    full-asked SOURCES (call.Enqueue (moment t) Video (bare (video_packet (made.count_of is_video before.history) t size))) before (full-packets t size n m full)

full-frame : (t : ℕ) (m : Looping) → IsFull m → IsFull (with_frame t m)
unfolding with_frame
full-frame t m full = by_due (is_frame_due t)
  where
    by_due : (b : Bool) → IsFull (if b then with_packets t (packet_bytes (target m.history)) (frame_packets (target m.history)) m else m)
    by_due true = full-packets t (packet_bytes (target m.history)) (frame_packets (target m.history)) m full
    by_due false = full

full-paced : (t : ℕ) (m : Looping) → IsFull m → IsFull (paced t m)
unfolding paced
full-paced t m full = by_open (is_open m) refl
  where
    c : Call
    c = call.Pace (moment t)

    by_open : (b : Bool) → is_open m ≡ b → IsFull (if b then with_offers (moment t) (sent_by (reply m.history c)) (grown PACER c m) else ended m)
    by_open true e = full-grown PACER c m full
    by_open false e = full-ended m e full

full-pace : (t : ℕ) (m : Looping) → IsFull m → IsFull (with_pace t m)
unfolding with_pace
full-pace t m full = by_due (t % 5 == 0)
  where
    by_due : (b : Bool) → IsFull (if b then paced t m else m)
    by_due true = full-paced t m full
    by_due false = full

full-due : (s : LinkSettings) (t : ℕ) (m : Looping) → IsFull m → IsFull (all_due s t m)
full-due s t m full =
    let opened : Looping = with_opening t m in
    let arrived : Looping = with_arrivals s t opened in
    let reported : Looping = with_reports t arrived in
    let heard : Looping = with_audio t reported in
    full-pace t (with_frame t heard)
    (full-frame t heard (full-audio t reported (full-reports t arrived (full-arrivals s t opened (full-opening t m full)))))

full-millisecond : (s : LinkSettings) (t : ℕ) (m : Looping) → IsFull m → IsFull (millisecond s t m)
unfolding millisecond
full-millisecond s t m full = by_over m.over
  where
    by_over : (b : Bool) → IsFull (if b then m else all_due s t m)
    by_over true = full
    by_over false = full-due s t m full

full-looping : (s : LinkSettings) (n : ℕ) → IsFull (looping s n)
unfolding looping
full-looping s zero = λ h. absurd cc
full-looping s (suc n) = full-millisecond s n (looping s n) (full-looping s n)

-- a run whose journal has room is not over
pub not-over : (s : LinkSettings) (n : ℕ) → length (looping s n).history < MOST_ENTRIES → (looping s n).over ≡ false
not-over s n room = by_over (looping s n).over (full-looping s n)
  where
    by_over : (b : Bool) → (b ≡ true → MOST_ENTRIES ≤ length (looping s n).history) → b ≡ false
    by_over true full = absurd (omega (arith, full refl, room))
    by_over false full = refl
