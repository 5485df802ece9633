-- A closed loop: what sources, a pacer and a receiver ask of a sender over a link, millisecond by millisecond.
use Rattle.std.specs.Prelude.{ℕ, zero, suc, ◌%◌, Bool, true, false, not, nat_lt, ◌==◌, ◌&&◌, if◌then◌else◌, List, [], ◌∷◌, ◌++◌, length, map, fold}
use Rattle.gcc_units.specs.declared.class.Class.TheVariants.{Audio, Video}
use Rattle.gcc_units.specs.declared.limits.TheConstants.{MOST_ENTRIES}
use Rattle.gcc_units.specs.Listed.{bare}
use Rattle.twcc_report.specs.Spelling.{Feedback}
use Rattle.twcc_report.specs.Canonical.{canonical}
use Rattle.pacer.specs.declared.sent.Sent.{Sent}
use Rattle.send_core.specs.declared.call.Call.{Call}
use Rattle.send_core.specs.declared.call.Call.TheVariants.{Enqueue, Pace, Report, Configure}
use Rattle.send_core.specs.declared.call.Entry.{Entry}
use Rattle.send_core.specs.History.{entry, sent_by}
use Rattle.send_core.specs.Estimates.{target}
use Rattle.send_core.specs.Reply.{reply}
use Rattle.call_trace.specs.MadePackets.{audio_packet, video_packet, frame_packets, packet_bytes}
use Rattle.call_trace.specs.Making.{is_audio, is_video, count_of, moment, opening, is_frame_due}
use Rattle.link_path.specs.declared.link.LinkSettings.{LinkSettings}
use Rattle.link_path.specs.Link.{Offer, Event, offered, given}
use Rattle.link_path.specs.Link as link
use Rattle.link_path.specs.Receiver.{KeptReceiver, next_reports, told_all}
use Rattle.link_loop.specs.declared.TheConstants.{SOURCES, PACER, REPORTER, OPENER}

-- the calls made so far, as a sender served them; what was offered to the link, and the moments at which what arrived was handed over;
-- what is kept of the receiver; its reports that were served; and whether a call found the journal full
pub record Looping : Type 0 where
  pub history : List Entry
  pub events : List Event
  pub receiver : KeptReceiver
  pub reports : List Feedback
  pub over : Bool

-- ---- calls

abbrev pub is_open : Looping → Bool
is_open m = not m.over && nat_lt (length m.history) MOST_ENTRIES

abbrev pub grown : ℕ → Call → Looping → Looping
grown caller call m = record m { history = m.history ++ entry caller call (reply m.history call) ∷ [] }

abbrev pub ended : Looping → Looping
ended m = record m { over = true }

-- a call more, by this caller, unless the journal is full: then the loop is over
unfoldable pub asked : ℕ → Call → Looping → Looping
asked caller call m = if is_open m then grown caller call m else ended m

-- ---- what is due in the millisecond t

unfoldable pub with_opening : ℕ → Looping → Looping
with_opening t m = if t == 0 then asked OPENER (Configure (moment t) opening) m else m

-- what has arrived goes to the receiver
unfoldable pub with_arrivals : LinkSettings → ℕ → Looping → Looping
with_arrivals s t m =
    record m {
      events = m.events ++ link.asked (moment t) ∷ [];
      receiver = record m.receiver { taken = m.receiver.taken ++ given s m.events (link.asked (moment t)) };
    }

-- a report is served in its canonical spelling
unfoldable pub served : ℕ → Feedback → Looping → Looping
served t f m =
    if is_open m then record (grown REPORTER (Report (moment t) (bare (canonical f))) m) { reports = m.reports ++ f ∷ [] } else ended m

abbrev pub all_served : ℕ → List Feedback → Looping → Looping
all_served t fs m = fold (λ m f. served t f m) m fs

unfoldable pub with_reports : ℕ → Looping → Looping
with_reports t m = if t % 50 == 40 then all_served t (next_reports m.receiver) (record m { receiver = told_all m.receiver }) else m

unfoldable pub with_audio : ℕ → Looping → Looping
with_audio t m = if t % 20 == 0 then asked SOURCES (Enqueue (moment t) Audio (bare (audio_packet (count_of is_audio m.history) t))) m else m

unfoldable pub with_video : ℕ → ℕ → Looping → Looping
with_video t size m = asked SOURCES (Enqueue (moment t) Video (bare (video_packet (count_of is_video m.history) t size))) m

-- so many video packets of a size
unfoldable pub with_packets : ℕ → ℕ → ℕ → Looping → Looping
with_packets t size zero m = m
with_packets t size (suc n) m = with_video t size (with_packets t size n m)

unfoldable pub with_frame : ℕ → Looping → Looping
with_frame t m = if is_frame_due t then with_packets t (packet_bytes (target m.history)) (frame_packets (target m.history)) m else m

abbrev pub offer_of : ℕ → Sent → Offer
offer_of at r = record { number = r.number; size = r.size; moment = at }

abbrev pub offered_at : ℕ → Sent → Event
offered_at at r = offered (offer_of at r)

abbrev pub with_offers : ℕ → List Sent → Looping → Looping
with_offers at records m = record m { events = m.events ++ map (offered_at at) records }

-- a pace, and each of its records offered to the link
unfoldable pub paced : ℕ → Looping → Looping
paced t m = if is_open m then with_offers (moment t) (sent_by (reply m.history (Pace (moment t)))) (grown PACER (Pace (moment t)) m) else ended m

unfoldable pub with_pace : ℕ → Looping → Looping
with_pace t m = if t % 5 == 0 then paced t m else m

abbrev pub all_due : LinkSettings → ℕ → Looping → Looping
all_due s t m = with_pace t (with_frame t (with_audio t (with_reports t (with_arrivals s t (with_opening t m)))))

unfoldable pub millisecond : LinkSettings → ℕ → Looping → Looping
millisecond s t m = if m.over then m else all_due s t m

-- ---- runs

abbrev pub unused : Looping
unused = record { history = []; events = []; receiver = record { from = 0; last = 0; feedback = 0; taken = [] }; reports = []; over = false }

-- the first n milliseconds
unfoldable pub looping : LinkSettings → ℕ → Looping
looping s zero = unused
looping s (suc n) = millisecond s n (looping s n)
