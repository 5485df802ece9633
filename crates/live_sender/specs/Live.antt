-- A live sender stands for the history of its calls.
use Rattle.std.specs.Prelude.{◌≡◌, ℕ, ◌==◌, ◌-◌, ◌||◌, nat_le, nat_lt, Bool, if◌then◌else◌, Option, None, List, length, map, slice_get}
use Rattle.std.specs.List.{list_any}
use Rattle.gcc_units.specs.declared.limits.TheConstants.{MOST_SENDS, MOST_REPORTS}
use Rattle.gcc_units.specs.Listed.{Listed}
use Rattle.sent_history.specs.Events.{reports}
use Rattle.pace_queues.specs.declared.ticket.Ticket.{Ticket}
use Rattle.send_core.specs.declared.call.Entry.{Entry}
use Rattle.send_core.specs.declared.counts.TheConstants.{MOST_SENT, MOST_ACCEPTED}
use Rattle.send_core.specs.declared.parts.Parts.{Parts}
use Rattle.send_core.specs.History.{AcceptedPacket, wire_in, accepted, sent, waiting}
use Rattle.send_core.specs.Reports.{events}
use Rattle.send_core.specs.Reply.{IsAnswered}
use Rattle.send_core.specs.Stands as core
use Rattle.live_sender.specs.declared.sums.Sums.{Sums}
use Rattle.live_sender.specs.Held.{under}
use Rattle.live_sender.specs.Sums.{sums_of}

-- what it keeps: the parts, the packets that wait, how many reports were judged, and what the replies add up to
pub record Live : Type 0 where
  pub parts : Parts
  pub packets : List (ℕ × Listed ℕ)
  pub judged : ℕ
  pub sums : Sums

-- whether a packet of this index is among these
abbrev pub is_among : List Ticket → ℕ → Bool
is_among ts index = list_any (λ (t : Ticket). t.index == index) ts

-- the bytes of the packet of this index, if it is among these
abbrev pub bytes_among : List Ticket → List AcceptedPacket → ℕ → Option (List ℕ)
bytes_among ts packets index = if is_among ts index then slice_get (map wire_in packets) index else None

-- each part is what the history determines, and just the packets that wait are kept
pub record StandsFor (live : Live) (history : List Entry) : Type 0 where
  pub parts : core.StandsFor live.parts history
  pub answered : IsAnswered history
  pub packets : (index : ℕ) → under live.packets index ≡ bytes_among (waiting history) (accepted history) index
  pub judged : live.judged ≡ length (reports (events history))
  pub sums : live.sums ≡ sums_of history

-- one more call could pass a limit: a pace that of the packets sent, a report that of the reports, a packet that of the accepted ones
abbrev pub is_exhausted : List Entry → Bool
is_exhausted history =
    nat_lt (MOST_SENT - MOST_SENDS) (length (sent history)) || (nat_le MOST_REPORTS (length (reports (events history))) || nat_le MOST_ACCEPTED (length (accepted history)))
