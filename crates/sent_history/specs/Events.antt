-- What a history is given: packets that were sent, and reports.
use Rattle.std.specs.Prelude.{ℕ, List, [], ◌∷◌, fold}
use Rattle.std.specs.List.{flat_map}
use Rattle.twcc_report.specs.Spelling.{Feedback}
use Rattle.sent_history.specs.declared.slot.Outgoing.{Outgoing}

pub data Event : Type 0 where
  added : Outgoing → Event
  reported : Feedback → Event

abbrev pub packet_in : Event → List Outgoing
packet_in (added packet) = packet ∷ []
packet_in (reported report) = []

abbrev pub report_in : Event → List Feedback
report_in (added packet) = []
report_in (reported report) = report ∷ []

-- the packets in the order in which they were sent; a packet's number is its place
abbrev pub packets : List Event → List Outgoing
packets events = flat_map packet_in events

-- the reports in the order in which they were judged
abbrev pub reports : List Event → List Feedback
reports events = flat_map report_in events

-- when the last packet was sent; 0 where there is none
abbrev pub last_sent_at : List Event → ℕ
last_sent_at events = fold (λ (moment : ℕ) (packet : Outgoing). packet.sent_at) 0 (packets events)
