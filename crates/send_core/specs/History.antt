-- What a history says of moments and packets. A history is the list of its entries, the oldest first.
use Rattle.std.specs.Prelude.{ℕ, Bool, ◌+◌, nat_lt, max, if◌then◌else◌, List, [], ◌∷◌, length, fold}
use Rattle.std.specs.List.{flat_map, list_any}
use Rattle.gcc_units.specs.declared.class.Class.{Class}
use Rattle.gcc_units.specs.declared.limits.TheConstants.{GREATEST_MOMENT}
use Rattle.pace_queues.specs.declared.ticket.Ticket.{Ticket}
use Rattle.pacer.specs.declared.sent.Sent.{Sent}
use Rattle.pacer.specs.Pace.{unsent, is_media}
use Rattle.send_core.specs.declared.call.Call.{Call}
use Rattle.send_core.specs.declared.call.Call.TheVariants.{Enqueue, Pace, Report, Configure}
use Rattle.send_core.specs.declared.call.Reply.{Reply}
use Rattle.send_core.specs.declared.call.Reply.TheVariants.{Accepted, Paced, Credited, Configured, Refused}
use Rattle.send_core.specs.declared.call.Entry.{Entry}

abbrev pub entry : ℕ → Call → Reply → Entry
entry caller call reply = record { caller = caller; call = call; reply = reply }

-- ---- moments

-- the moment that a call hands in
abbrev pub at_of : Call → ℕ
at_of (Enqueue at class wire) = at
at_of (Pace at) = at
at_of (Report at bytes) = at
at_of (Configure at change) = at

-- the moment of a call, after that of the one before: the greater of the two, unless what is handed in is too large
abbrev pub later : ℕ → Call → ℕ
later moment call = if nat_lt GREATEST_MOMENT (at_of call) then moment else max moment (at_of call)

-- the moment of the last entry, 0 where there is none
abbrev pub now : List Entry → ℕ
now history = fold (λ m (e : Entry). later m e.call) 0 history

-- ---- accepted packets

pub record AcceptedPacket : Type 0 where
  pub class : Class
  pub wire : List ℕ
  pub moment : ℕ

abbrev pub wire_in : AcceptedPacket → List ℕ
wire_in p = p.wire

abbrev pub accepted_by : Call → Reply → List AcceptedPacket
accepted_by (Enqueue at class wire) (Accepted moment index) = (record { class = class; wire = wire.items; moment = moment }) ∷ []
accepted_by call reply = []

-- the packets that were accepted, in their order
abbrev pub accepted : List Entry → List AcceptedPacket
accepted history = flat_map (λ (e : Entry). accepted_by e.call e.reply) history

-- what is kept of a packet while it waits; its index is its place among the accepted
abbrev pub ticket_of : ℕ → AcceptedPacket → Ticket
ticket_of index p = record { index = index; class = p.class; size = length p.wire; accepted_at = p.moment }

abbrev pub tickets_from : ℕ → List AcceptedPacket → List Ticket
tickets_from index [] = []
tickets_from index (p ∷ ps) = ticket_of index p ∷ tickets_from (index + 1) ps

abbrev pub tickets : List Entry → List Ticket
tickets history = tickets_from 0 (accepted history)

-- ---- sent and waiting packets

abbrev pub sent_by : Reply → List Sent
sent_by (Paced moment records) = records.items
sent_by (Accepted moment index) = []
sent_by (Credited moment judged signal m acked rates shares) = []
sent_by (Configured moment rates shares) = []
sent_by (Refused moment cause) = []

-- the records of all that was sent, in their order
abbrev pub sent : List Entry → List Sent
sent history = flat_map (λ (e : Entry). sent_by e.reply) history

-- the accepted packets that no record is of
abbrev pub waiting : List Entry → List Ticket
waiting history = unsent (sent history) (tickets history)

-- whether media within the budget was sent
abbrev pub began : List Entry → Bool
began history = list_any (λ (r : Sent). is_media r.kind) (sent history)

-- whether a packet was accepted or sent
abbrev pub has_packets : List Entry → Bool
has_packets history = nat_lt 0 (length (accepted history) + length (sent history))
