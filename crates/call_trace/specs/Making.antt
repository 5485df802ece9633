-- Made traces: what an audio and a video source, a pacer and a receiver ask of a sender, millisecond by millisecond.
use Rattle.std.specs.Prelude.{ℕ, zero, suc, ◌+◌, ◌*◌, ◌%◌, Bool, true, false, nat_lt, ◌==◌, ◌&&◌, ◌||◌, if◌then◌else◌, None, Some, List, [], ◌∷◌, ◌++◌, length, map, take, drop, count_by}
use Rattle.std.specs.List.{flat_map}
use Rattle.gcc_units.specs.declared.class.Class.TheVariants.{Audio, Video}
use Rattle.gcc_units.specs.Listed.{bare}
use Rattle.twcc_report.specs.Canonical.{canonical}
use Rattle.rand_core.specs.Stream.{Stream}
use Rattle.pacer.specs.declared.sent.Sent.{Sent}
use Rattle.send_core.specs.declared.call.Call.{Call}
use Rattle.send_core.specs.declared.call.Call.TheVariants.{Enqueue, Pace, Report, Configure}
use Rattle.send_core.specs.declared.call.Change.{Change}
use Rattle.send_core.specs.declared.call.Reply.{Reply}
use Rattle.send_core.specs.declared.call.Reply.TheVariants.{Accepted, Paced, Credited, Configured, Refused}
use Rattle.send_core.specs.declared.call.Entry.{Entry}
use Rattle.send_core.specs.History.{entry}
use Rattle.send_core.specs.Estimates.{target}
use Rattle.send_core.specs.Reply.{reply}
use Rattle.call_trace.specs.declared.trace.Action.TheVariants.{Ask}
use Rattle.call_trace.specs.declared.trace.Line.{Line}
use Rattle.call_trace.specs.Plain.{Plain}
use Rattle.call_trace.specs.MadePackets.{audio_packet, video_packet, frame_packets, packet_bytes}
use Rattle.call_trace.specs.MadeReports.{words_of, words_after, report}
use Rattle.gcc_units.specs.declared.limits.TheConstants.{MOST_STATUSES}

-- ---- what a history tells

abbrev pub is_audio : Call → Bool
is_audio (Enqueue at Audio wire) = true
is_audio call = false

abbrev pub is_video : Call → Bool
is_video (Enqueue at Video wire) = true
is_video call = false

abbrev pub is_report : Call → Bool
is_report (Report at bytes) = true
is_report call = false

-- how many of its calls pass
abbrev pub count_of : (Call → Bool) → List Entry → ℕ
count_of test history = count_by (λ (e : Entry). test e.call) history

abbrev pub moments_by : Reply → List ℕ
moments_by (Paced moment records) = map (λ (r : Sent). moment) records.items
moments_by (Accepted moment index) = []
moments_by (Credited moment judged signal m acked rates shares) = []
moments_by (Configured moment rates shares) = []
moments_by (Refused moment cause) = []

-- for each number the moment at which it was sent
abbrev pub moments : List Entry → List ℕ
moments history = flat_map (λ (e : Entry). moments_by e.reply) history

-- ---- making calls

-- the calls made so far, as a sender served them; the words that are left; how many numbers are covered: the reports told of those
-- below; and how many calls are asked for
pub record Making : Type 0 where
  pub history : List Entry
  pub words : Stream
  pub covered : ℕ
  pub calls : ℕ

-- a call more, by caller 0, until there are as many as asked for
unfoldable pub asked : Call → Making → Making
asked call m = if nat_lt (length m.history) m.calls then record m { history = m.history ++ entry 0 call (reply m.history call) ∷ [] } else m

-- ---- what is due in the millisecond t; moments are in microseconds

abbrev pub moment : ℕ → ℕ
moment t = 1000 * t

-- the start of both estimates, and one stream
abbrev pub opening : Change
opening = record {
  streams = bare ((record { id = 1; min = 30000; max = 2500000; weight = 1; enforced = true }) ∷ []);
  removed = bare [];
  start = Some 300000;
  min = None;
  max = None;
  pacing_percent = None;
  window = None;
  padding_rate = None;
  paced_audio = None;
  extension_id = None;
  probe = None;
}

unfoldable pub with_opening : ℕ → Making → Making
with_opening t m = if t == 0 then asked (Configure (moment t) opening) m else m

unfoldable pub with_audio : ℕ → Making → Making
with_audio t m = if t % 20 == 0 then asked (Enqueue (moment t) Audio (bare (audio_packet (count_of is_audio m.history) t))) m else m

unfoldable pub with_video : ℕ → ℕ → Making → Making
with_video t size m = asked (Enqueue (moment t) Video (bare (video_packet (count_of is_video m.history) t size))) m

-- so many video packets of a size
unfoldable pub with_packets : ℕ → ℕ → ℕ → Making → Making
with_packets t size zero m = m
with_packets t size (suc n) m = with_video t size (with_packets t size n m)

abbrev pub is_frame_due : ℕ → Bool
is_frame_due t = t % 100 == 0 || t % 100 == 33 || t % 100 == 67

unfoldable pub with_frame : ℕ → Making → Making
with_frame t m = if is_frame_due t then with_packets t (packet_bytes (target m.history)) (frame_packets (target m.history)) m else m

unfoldable pub with_pace : ℕ → Making → Making
with_pace t m = if t % 5 == 0 then asked (Pace (moment t)) m else m

-- the moments of the numbers that no report told of, and of those of them that the next one tells of
abbrev pub untold : Making → List ℕ
untold m = drop m.covered (moments m.history)

abbrev pub uncovered : Making → List ℕ
uncovered m = take MOST_STATUSES (untold m)

abbrev pub report_bytes : Making → List ℕ
report_bytes m = canonical (report m.words (count_of is_report m.history) m.covered (uncovered m))

-- the receiver has told of these numbers
abbrev pub told : Making → Making
told m = record m { words = words_after (length (uncovered m)) m.words; covered = m.covered + length (uncovered m) }

abbrev pub is_report_due : ℕ → Making → Bool
is_report_due t m = t % 50 == 40 && nat_lt m.covered (length (moments m.history))

unfoldable pub with_report : ℕ → Making → Making
with_report t m = if is_report_due t m then asked (Report (moment t) (bare (report_bytes m))) (told m) else m

abbrev pub millisecond : ℕ → Making → Making
millisecond t m = with_report t (with_pace t (with_frame t (with_audio t (with_opening t m))))

-- ---- traces

abbrev pub unmade : ℕ → ℕ → Making
unmade seed calls = record { history = []; words = words_of seed; covered = 0; calls = calls }

-- what the first n milliseconds make
unfoldable pub milliseconds : ℕ → ℕ → ℕ → Making
milliseconds seed calls zero = unmade seed calls
milliseconds seed calls (suc n) = millisecond n (milliseconds seed calls n)

-- whose call it is, where there are at least four actors: the sources', the pacer's, the receiver's, or that of who opened
abbrev pub actor_of : Call → ℕ
actor_of (Enqueue at class wire) = 0
actor_of (Pace at) = 1
actor_of (Report at bytes) = 2
actor_of (Configure at change) = 3

abbrev pub line_of : ℕ → Entry → Line
line_of actors e = record { actor = actor_of e.call % actors; action = Ask e.call }

-- the trace of a seed, with so many calls of so many actors; each fifth millisecond has a pace, so five for each call are enough
unfoldable pub made : ℕ → ℕ → ℕ → Plain
made seed calls actors = record { actors = actors; lines = map (line_of actors) (milliseconds seed calls (5 * calls)).history }
