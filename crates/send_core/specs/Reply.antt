-- The reply to a call, by the entries before it, and the histories in which each reply is that one.
use Rattle.std.specs.Prelude.{◌≡◌, ℕ, ◌+◌, ◌*◌, ◌≤◌, nat_lt, count_by, if◌then◌else◌, Option, None, Some, List, length, take, slice_get, Result, Ok, Err}
use Rattle.gcc_units.specs.declared.limits.TheConstants.{GREATEST_MOMENT, MOST_WAITING, MOST_SENDS, MOST_ENTRIES, BOARD_LENGTHS}
use Rattle.gcc_units.specs.declared.shared_types.Judged.{Judged}
use Rattle.gcc_units.specs.Listed.{bare}
use Rattle.rtp_wire.specs.declared.packet.WireFault.{WireFault}
use Rattle.rtp_wire.specs.Place.{place_of}
use Rattle.twcc_report.specs.declared.fault.ReportFault.{ReportFault}
use Rattle.twcc_report.specs.Spelling.{Feedback}
use Rattle.twcc_report.specs.Reading.{read_of}
use Rattle.sent_history.specs.Crediting.{told, judged}
use Rattle.probe_clusters.specs.Cluster.{waits}
use Rattle.probe_clusters.specs.Deeds.{clusters}
use Rattle.allocator.specs.Streams.{changed}
use Rattle.allocator.specs.Shares.{shares}
use Rattle.estimator.specs.Est.{judged_est, set_est, estimate, found}
use Rattle.pacer.specs.declared.course.Terms.{Terms}
use Rattle.pacer.specs.Pace.{paced}
use Rattle.pacer.specs.Pace as pace
use Rattle.send_core.specs.declared.call.Call.{Call}
use Rattle.send_core.specs.declared.call.Call.TheVariants.{Enqueue, Pace, Report, Configure}
use Rattle.send_core.specs.declared.call.Change.{Change}
use Rattle.send_core.specs.declared.call.Reply.{Reply}
use Rattle.send_core.specs.declared.call.Reply.TheVariants.{Accepted, Paced, Credited, Configured, Refused}
use Rattle.send_core.specs.declared.call.Cause.TheVariants as cause
use Rattle.send_core.specs.declared.call.Entry.{Entry}
use Rattle.send_core.specs.History.{at_of, later, now, accepted, sent, waiting, began, has_packets}
use Rattle.send_core.specs.Settings.{Standing, fault_of, settings, settings_after, streams, started}
use Rattle.send_core.specs.Reports.{events, cluster_deeds}
use Rattle.send_core.specs.Estimates.{est, rates_of}
pub use Rattle.send_core.specs.Estimates.{target}
use Rattle.send_core.specs.Levels.{level_at, padding_at, floor}

-- the ID of the element that holds the number
abbrev pub extension_id : List Entry → ℕ
extension_id history = (settings history).extension_id

-- length and target in one number
abbrev pub board : List Entry → ℕ
board history = length history + BOARD_LENGTHS * target history

-- ---- enqueue

-- a packet that was read
abbrev pub enqueued : List Entry → ℕ → Result ℕ WireFault → Reply
enqueued history moment (Err fault) = Refused moment (cause.Wire fault)
enqueued history moment (Ok place) =
    if nat_lt (length (waiting history)) MOST_WAITING then Accepted moment (length (accepted history))
    else Refused moment (cause.QueueFull MOST_WAITING)

-- ---- pace

-- what holds all through a pace at this moment
abbrev pub terms_at : List Entry → ℕ → Terms
terms_at history moment = record { moment = moment; paced_audio = (settings history).paced_audio; floor = floor history }

-- how a pace at this moment begins
abbrev pub standing_at : List Entry → ℕ → pace.Standing
standing_at history moment = record {
  waiting = waiting history;
  media = level_at history moment;
  padding = padding_at history moment;
  clusters = clusters (cluster_deeds history);
  began = began history;
  number = length (sent history);
}

-- ---- reports

-- what a report credits, with the estimates and shares after it
abbrev pub credited : List Entry → ℕ → Judged → Reply
credited history moment verdict =
    let after = judged_est (est history) verdict.received.items verdict.missing moment (settings history).bounds (found (cluster_deeds history) verdict.received.items) in
    Credited moment verdict (estimate after).signal (estimate after).m (estimate after).acked
    (rates_of after (settings history).pacing_percent)
    (bare (shares (estimate after).target (streams history)))

-- bytes that were read
abbrev pub reported : List Entry → ℕ → Result Feedback ReportFault → Reply
reported history moment (Err fault) = Refused moment (cause.Report fault)
reported history moment (Ok report) = credited history moment (told (judged (events history) report))

-- ---- settings

-- what the checks of a change look at
abbrev pub standing : List Entry → Standing
standing history = record {
  fixed = has_packets history;
  settings = settings history;
  streams = streams history;
  waiting = count_by waits (clusters (cluster_deeds history));
  started = started history;
}

-- a change that was checked
abbrev pub configured : List Entry → ℕ → Change → Option ℕ → Reply
configured history moment change (Some check) = Refused moment (cause.Config check)
configured history moment change None =
    let now_set = settings_after (settings history) change in
    let after = set_est (est history) change.start now_set.bounds in
    Configured moment (rates_of after now_set.pacing_percent)
    (bare (shares (estimate after).target (changed (streams history) change.streams.items change.removed.items)))

-- ---- the reply

-- the reply to a call whose moment is not too large
abbrev pub reply_in_time : List Entry → ℕ → Call → Reply
reply_in_time history moment (Enqueue at class wire) = enqueued history moment (place_of (extension_id history) wire.items)
reply_in_time history moment (Pace at) = Paced moment (bare (paced MOST_SENDS (terms_at history moment) (standing_at history moment)))
reply_in_time history moment (Report at bytes) = reported history moment (read_of bytes.items)
reply_in_time history moment (Configure at change) = configured history moment change (fault_of (standing history) change)

abbrev pub reply : List Entry → Call → Reply
reply history call =
    if nat_lt GREATEST_MOMENT (at_of call) then Refused (now history) cause.MomentTooLarge
    else reply_in_time history (later (now history) call) call

-- each reply is the one that the entries before it determine
abbrev pub IsAnswered : List Entry → Type 0
IsAnswered history = (n : ℕ) (e : Entry) → slice_get history n ≡ Some e → e.reply ≡ reply (take n history) e.call

-- and there are no more entries than a journal may hold
pub record IsLegal (history : List Entry) : Type 0 where
  pub short : length history ≤ MOST_ENTRIES
  pub each : IsAnswered history
