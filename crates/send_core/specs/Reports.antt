-- What a history says of reports: the packets sent and the reports judged, and the deeds of the probe clusters.
use Rattle.std.specs.Prelude.{ℕ, Bool, Option, None, Some, List, [], ◌∷◌, ◌++◌, map, Result, Ok, Err}
use Rattle.std.specs.List.{flat_map}
use Rattle.gcc_units.specs.Walk.{walk}
use Rattle.twcc_report.specs.declared.fault.ReportFault.{ReportFault}
use Rattle.twcc_report.specs.Spelling.{Feedback}
use Rattle.twcc_report.specs.Reading.{read_of}
use Rattle.sent_history.specs.declared.finding.Finding.{Finding}
use Rattle.sent_history.specs.declared.slot.Outgoing.{Outgoing}
use Rattle.sent_history.specs.Events.{Event, added, reported}
use Rattle.sent_history.specs.Crediting.{findings, judged}
use Rattle.probe_clusters.specs.Deeds.{Deed, Plan, Note, takings}
use Rattle.pacer.specs.declared.sent.Sent.{Sent}
use Rattle.pacer.specs.declared.sent.Kind.{Kind}
use Rattle.pacer.specs.declared.sent.Kind.TheVariants as kind
use Rattle.pacer.specs.Course.{probes_of}
use Rattle.estimator.specs.Est.{found}
use Rattle.send_core.specs.declared.call.Call.{Call}
use Rattle.send_core.specs.declared.call.Call.TheVariants.{Report, Configure}
use Rattle.send_core.specs.declared.call.Reply.{Reply}
use Rattle.send_core.specs.declared.call.Reply.TheVariants.{Paced, Credited, Configured}
use Rattle.send_core.specs.declared.call.Entry.{Entry}
use Rattle.send_core.specs.Settings.{started, plans}

-- ---- packets sent and reports judged

-- the cluster that a packet was sent for
abbrev pub cluster_of : Kind → Option ℕ
cluster_of kind.Audio = None
cluster_of kind.Media = None
cluster_of (kind.Probe id) = Some id
cluster_of kind.Padding = None

abbrev pub outgoing_of : ℕ → Sent → Outgoing
outgoing_of moment r = record { sent_at = moment; size = r.size; cluster = cluster_of r.kind }

abbrev pub added_of : ℕ → Sent → Event
added_of moment r = added (outgoing_of moment r)

-- the report that bytes spell, if they spell one
abbrev pub reported_of : Result Feedback ReportFault → List Event
reported_of (Ok report) = reported report ∷ []
reported_of (Err fault) = []

abbrev pub events_by : Call → Reply → List Event
events_by call (Paced moment records) = map (added_of moment) records.items
events_by (Report at bytes) (Credited moment judged signal m acked rates shares) = reported_of (read_of bytes.items)
events_by call given = []

abbrev pub events : List Entry → List Event
events history = flat_map (λ (e : Entry). events_by e.call e.reply) history

-- what a report tells of packets for the first time; nothing where the bytes spell no report
abbrev pub findings_read : List Event → Result Feedback ReportFault → List Finding
findings_read es (Ok report) = findings (judged es report)
findings_read es (Err fault) = []

abbrev pub findings_by : List Entry → List ℕ → List Finding
findings_by history bytes = findings_read (events history) (read_of bytes)

-- ---- clusters

-- what an entry does to the clusters, by whether a start was there before and what was done before
abbrev pub deeds_by : Bool → List Deed → Call → Reply → List Deed
deeds_by started ds call (Paced moment records) = probes_of moment records.items
deeds_by started ds call (Credited moment judged signal m acked rates shares) =
    map Note judged.received.items ++ takings (found ds judged.received.items)
deeds_by started ds (Configure at change) (Configured moment rates shares) = map Plan (plans started change)
deeds_by started ds call given = []

abbrev pub cluster_deeds : List Entry → List Deed
cluster_deeds history = walk (λ before ds (e : Entry). ds ++ deeds_by (started before) ds e.call e.reply) [] history
