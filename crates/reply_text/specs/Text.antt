-- The printed history: a title, a line for each entry, a line for each glance, and the tail.
use Rattle.std.specs.Prelude.{ℕ, ℤ, ◌==◌, Option, None, Some, List, [], ◌∷◌, ◌++◌, length, codes, count_by}
use Rattle.std.specs.List.{flat_map}
use Rattle.std.specs.Fmt.{decimal, signed_decimal}
use Rattle.gcc_units.specs.declared.shared_types.Credit.{Credit}
use Rattle.gcc_units.specs.declared.shared_types.Judged.{Judged}
use Rattle.gcc_units.specs.declared.shared_types.Share.{Share}
use Rattle.gcc_units.specs.declared.shared_types.Signal.{Signal}
use Rattle.gcc_units.specs.declared.shared_types.Signal.TheVariants.{Normal, Over, Under}
use Rattle.rtp_wire.specs.declared.packet.WireFault.{WireFault}
use Rattle.rtp_wire.specs.declared.packet.WireFault.TheVariants.{Short, Long, Version, BadExtension, NoExtension}
use Rattle.twcc_report.specs.declared.fault.ReportFault.{ReportFault}
use Rattle.twcc_report.specs.declared.fault.ReportFault.TheVariants as report
use Rattle.pacer.specs.declared.sent.Sent.{Sent}
use Rattle.pacer.specs.declared.sent.Kind.{Kind}
use Rattle.pacer.specs.declared.sent.Kind.TheVariants.{Audio, Media, Probe, Padding}
use Rattle.send_core.specs.declared.call.Cause.{Cause}
use Rattle.send_core.specs.declared.call.Cause.TheVariants.{MomentTooLarge, Wire, QueueFull, Report, Config}
use Rattle.send_core.specs.declared.call.Reply.{Reply}
use Rattle.send_core.specs.declared.call.Reply.TheVariants.{Accepted, Paced, Credited, Configured, Refused}
use Rattle.send_core.specs.declared.call.Rates.{Rates}
use Rattle.send_core.specs.declared.call.Entry.{Entry}
use Rattle.send_core.specs.History.{sent}
use Rattle.send_core.specs.Reply.{target}
use Rattle.reply_text.specs.declared.seen.Seen.{Seen}

-- ---- the sends of a pace: ` <number>:<kind>:<index>:<size>`

-- a cluster's id stands behind the kind of a probe
abbrev pub kind_text : Kind → List ℕ
kind_text Audio = codes "a"
kind_text Media = codes "m"
kind_text (Probe id) = codes "x" ++ decimal id
kind_text Padding = codes "p"

-- a padding packet has no index
abbrev pub index_text : Option ℕ → List ℕ
index_text None = codes "-"
index_text (Some index) = decimal index

abbrev pub sent_text : Sent → List ℕ
sent_text s = codes " " ++ decimal s.number ++ codes ":" ++ kind_text s.kind ++ codes ":" ++ index_text s.index ++ codes ":" ++ decimal s.size

-- ---- reports and rates

abbrev pub signal_text : Signal → List ℕ
signal_text Normal = codes "normal"
signal_text Over = codes "over"
signal_text Under = codes "under"

-- a rate that is none is `-`
abbrev pub rate_text : Option ℕ → List ℕ
rate_text None = codes "-"
rate_text (Some rate) = decimal rate

-- how many statuses were judged how
abbrev pub judged_text : Judged → List ℕ
judged_text j =
    codes "got " ++ decimal (length j.received.items) ++ codes " lost " ++ decimal j.missing
    ++ codes " unknown " ++ decimal j.unknown ++ codes " repeated " ++ decimal j.repeated

-- `rates <delay> <loss> <target> <pacing>`
abbrev pub rates_text : Rates → List ℕ
rates_text r =
    codes "rates " ++ decimal r.delay ++ codes " " ++ decimal r.loss ++ codes " " ++ decimal r.target ++ codes " " ++ decimal r.pacing

-- `signal <signal> m <m> acked <rate>`, and the rates
abbrev pub estimate_text : Signal → ℤ → Option ℕ → Rates → List ℕ
estimate_text signal m acked rates =
    codes "signal " ++ signal_text signal ++ codes " m " ++ signed_decimal m ++ codes " acked " ++ rate_text acked ++ codes " " ++ rates_text rates

abbrev pub share_text : Share → List ℕ
share_text s = decimal s.id ++ codes ":" ++ decimal s.rate

-- with a comma between each two
abbrev pub shares_text : List Share → List ℕ
shares_text [] = codes "-"
shares_text (first ∷ others) = share_text first ++ flat_map (λ (s : Share). codes "," ++ share_text s) others

abbrev pub credit_text : Credit → List ℕ
credit_text c = decimal c.number ++ codes "@" ++ signed_decimal c.arrival

-- with a space between each two
abbrev pub credits_text : List Credit → List ℕ
credits_text [] = codes "-"
credits_text (first ∷ others) = credit_text first ++ flat_map (λ (c : Credit). codes " " ++ credit_text c) others

-- ---- replies

-- the number of a check of a packet's bytes
abbrev pub wire_number : WireFault → ℕ
wire_number Short = 1
wire_number Long = 2
wire_number Version = 3
wire_number BadExtension = 4
wire_number NoExtension = 5

-- the number of a check of a report's bytes
abbrev pub report_number : ReportFault → ℕ
report_number report.Short = 1
report_number report.Length = 2
report_number report.Version = 3
report_number report.NotFeedback = 4
report_number report.NoStatus = 5
report_number report.Chunks = 6
report_number report.Reserved = 7
report_number report.Deltas = 8
report_number report.Padding = 9

abbrev pub cause_text : Cause → List ℕ
cause_text MomentTooLarge = codes "moment"
cause_text (Wire fault) = codes "wire " ++ decimal (wire_number fault)
cause_text (QueueFull waiting) = codes "full " ++ decimal waiting
cause_text (Report fault) = codes "report " ++ decimal (report_number fault)
cause_text (Config check) = codes "config " ++ decimal check

abbrev pub reply_text : Reply → List ℕ
reply_text (Accepted at index) = codes "accepted " ++ decimal at ++ codes " " ++ decimal index
reply_text (Paced at records) = codes "paced " ++ decimal at ++ codes " " ++ decimal (length records.items) ++ flat_map sent_text records.items
reply_text (Credited at judged signal m acked rates shares) =
    codes "credited " ++ decimal at ++ codes " " ++ judged_text judged ++ codes " " ++ estimate_text signal m acked rates
    ++ codes " shares " ++ shares_text shares.items
    ++ codes " credits " ++ credits_text judged.received.items
reply_text (Configured at rates shares) = codes "configured " ++ decimal at ++ codes " " ++ rates_text rates ++ codes " shares " ++ shares_text shares.items
reply_text (Refused at cause) = codes "refused " ++ decimal at ++ codes " " ++ cause_text cause

-- ---- lines

-- an entry's line, without its line feed
abbrev pub body_of : Entry → List ℕ
body_of e = decimal e.caller ++ codes " " ++ reply_text e.reply

abbrev pub line_of : Entry → List ℕ
line_of e = body_of e ++ codes "\n"

-- how many of these glances are the actor's
abbrev pub glances_by : ℕ → List Seen → ℕ
glances_by actor glances = count_by (λ (g : Seen). g.actor == actor) glances

-- the line of an actor's glance of this number, counted from 0
abbrev pub glance_line : ℕ → Seen → List ℕ
glance_line number g =
    decimal g.actor ++ codes " glance " ++ decimal number ++ codes " " ++ decimal g.calls ++ codes " " ++ decimal g.target ++ codes "\n"

-- the lines of glances behind others: a glance's number counts its actor's glances before it
abbrev pub glance_lines : List Seen → List Seen → List ℕ
glance_lines before [] = []
glance_lines before (g ∷ gs) = glance_line (glances_by g.actor before) g ++ glance_lines (before ++ g ∷ []) gs

-- `end <entries> <sent packets> <target>`
abbrev pub tail_of : List Entry → List ℕ
tail_of history = codes "end " ++ decimal (length history) ++ codes " " ++ decimal (length (sent history)) ++ codes " " ++ decimal (target history)

abbrev pub tail_line : List Entry → List ℕ
tail_line history = tail_of history ++ codes "\n"

abbrev pub text : List Entry → List Seen → List ℕ
text history glances = codes "gcc-history 1\n" ++ flat_map line_of history ++ glance_lines [] glances ++ tail_line history
