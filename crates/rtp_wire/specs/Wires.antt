-- What contracts see of a list of packets.
use Rattle.std.specs.Prelude.{ℕ, List}

-- the packets, and how many more and how many more bytes fit without memory being asked for
pub record Wires : Type 0 where
  pub items : List (List ℕ)
  pub room : ℕ
  pub byte_room : ℕ

-- packets with no promise of room
abbrev pub bare_wires : List (List ℕ) → Wires
bare_wires items = record { items = items; room = 0; byte_room = 0 }
