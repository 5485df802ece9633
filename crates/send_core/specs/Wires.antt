-- The packets that leave with a reply.
use Rattle.std.specs.Prelude.{ℕ, ◌%◌, Option, None, Some, List, [], map, slice_get, Result, Ok, Err}
use Rattle.rtp_wire.specs.declared.packet.WireFault.{WireFault}
use Rattle.rtp_wire.specs.Place.{place_of}
use Rattle.rtp_wire.specs.Stamp.{stamped, padding_packet}
use Rattle.pacer.specs.declared.sent.Sent.{Sent}
use Rattle.send_core.specs.declared.call.Reply.{Reply}
use Rattle.send_core.specs.declared.call.Entry.{Entry}
use Rattle.send_core.specs.History.{AcceptedPacket, accepted, sent_by}
use Rattle.send_core.specs.Reply.{extension_id}

-- the packet with the two bytes at its place replaced
abbrev pub stamped_at : List ℕ → ℕ → Result ℕ WireFault → List ℕ
stamped_at wire low (Ok place) = stamped wire place low
stamped_at wire low (Err fault) = wire

abbrev pub stamped_packet : ℕ → ℕ → Option AcceptedPacket → List ℕ
stamped_packet id low None = []
stamped_packet id low (Some p) = stamped_at p.wire low (place_of id p.wire)

-- the packet that leaves under a number: the accepted packet of this index, or the padding packet
abbrev pub wire_under : ℕ → List AcceptedPacket → ℕ → Option ℕ → List ℕ
wire_under id packets low None = padding_packet low id
wire_under id packets low (Some index) = stamped_packet id low (slice_get packets index)

abbrev pub wire_of : ℕ → List AcceptedPacket → Sent → List ℕ
wire_of id packets record_sent = wire_under id packets (record_sent.number % 65536) record_sent.index

-- record by record, by the history before the reply
abbrev pub wires : List Entry → Reply → List (List ℕ)
wires history given = map (wire_of (extension_id history) (accepted history)) (sent_by given)
