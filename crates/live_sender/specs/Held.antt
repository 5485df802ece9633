-- What is held of the packets that wait, and what leaves by it.
use Rattle.std.specs.Prelude.{◌≡◌, ℕ, ◌≤◌, ◌%◌, Option, None, Some, List, [], length, nat_eq, Ok}
use Rattle.std.specs.Option.{option_map}
use Rattle.std.specs.Map.{lookup}
use Rattle.gcc_units.specs.declared.limits.TheConstants.{GREATEST_PACKET}
use Rattle.gcc_units.specs.Listed.{Listed}
use Rattle.rtp_wire.specs.Place.{place_of}
use Rattle.rtp_wire.specs.Stamp.{padding_packet}
use Rattle.pacer.specs.declared.sent.Sent.{Sent}
use Rattle.send_core.specs.Wires.{stamped_at}

-- bytes by indices, in any order
abbrev pub Held : Type 0
Held = List (ℕ × Listed ℕ)

abbrev pub bytes_in : Listed ℕ → List ℕ
bytes_in wire = wire.items

-- the packet under an index
abbrev pub kept : Held → ℕ → Option (Listed ℕ)
kept held index = lookup (nat_eq index) held

-- and its bytes
abbrev pub under : Held → ℕ → Option (List ℕ)
under held index = option_map bytes_in (kept held index)

-- ---- what leaves

abbrev pub stamped_held : ℕ → ℕ → Option (List ℕ) → List ℕ
stamped_held id low None = []
stamped_held id low (Some wire) = stamped_at wire low (place_of id wire)

abbrev pub wire_by : ℕ → Held → ℕ → Option ℕ → List ℕ
wire_by id held low None = padding_packet low id
wire_by id held low (Some index) = stamped_held id low (under held index)

-- the packet that leaves with a record: what is held of it, stamped, or a padding packet
abbrev pub wire_from : ℕ → Held → Sent → List ℕ
wire_from id held r = wire_by id held (r.number % 65536) r.index

-- ---- what can leave

-- bytes that were read can be stamped
pub record IsStampable (id : ℕ) (wire : List ℕ) : Type 0 where
  pub place : ℕ
  pub is_place : place_of id wire ≡ Ok place
  pub small : length wire ≤ GREATEST_PACKET

abbrev pub AreStampable : ℕ → Option (List ℕ) → Type 0
AreStampable id None = ⊥
AreStampable id (Some wire) = IsStampable id wire

abbrev pub IsReady : ℕ → Held → Option ℕ → Type 0
IsReady id held None = Unit {0}
IsReady id held (Some index) = AreStampable id (under held index)

-- what the record is of is held, and can be stamped
abbrev pub CanLeave : ℕ → Held → Sent → Type 0
CanLeave id held r = IsReady id held r.index
