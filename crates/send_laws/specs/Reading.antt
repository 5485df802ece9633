-- Packets that are read with an ID of the element that holds their number.
use Rattle.std.specs.Prelude.{◌≡◌, ℕ, ◌≤◌, List, All, Ok}
use Rattle.rtp_wire.specs.Place.{place_of}
use Rattle.send_core.specs.declared.call.Entry.{Entry}
use Rattle.send_core.specs.History.{AcceptedPacket, accepted}
use Rattle.send_core.specs.Reply.{extension_id}

-- the place of its number is found
abbrev pub IsRead : ℕ → List ℕ → Type 0
IsRead id wire = (place : ℕ) × (place_of id wire ≡ Ok place)

abbrev pub IsReadPacket : ℕ → AcceptedPacket → Type 0
IsReadPacket id packet = IsRead id packet.wire

-- The ID in force is in its range, and each accepted packet is read with it.
pub record AreRead (history : List Entry) : Type 0 where
  pub low : 1 ≤ extension_id history
  pub high : extension_id history ≤ 14
  pub each : All (IsReadPacket (extension_id history)) (accepted history)
