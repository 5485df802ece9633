-- The place of the transport-wide number in a packet, and its stamp, where they stand alone.
use Rattle.std.specs.Prelude.{◌≡◌, ◌≤◌, ◌<◌, ◌%◌, ℕ, Result, Ok, Err, List}
use Rattle.rtp_wire.specs.declared.packet.WireFault.{WireFault}
use Rattle.rtp_wire.specs.Place.{place_of}
use Rattle.rtp_wire.specs.Stamp.{stamped}
use Rattle.send_core.specs.declared.call.Cause.TheVariants.{Wire, Config}
use Rattle.send_core.specs.declared.settings.TheConstants.{LEAST_EXTENSION, GREATEST_EXTENSION}
use Rattle.capi.specs.declared.fault.Fault.{Fault}
use Rattle.capi.specs.declared.fault.Fault.TheVariants.{Refused}
use Rattle.capi.specs.declared.stamping.TheConstants.{ID_CHECK}

-- a place, or why a packet has none
abbrev pub placed : Result ℕ WireFault → Result ℕ Fault
placed (Ok place) = Ok place
placed (Err fault) = Err (Refused (Wire fault))

-- the place was asked for, under this ID
pub record Places (packet : List ℕ) (id : ℕ) (outcome : Result ℕ Fault) : Type 0 where
  pub low : id < LEAST_EXTENSION → outcome ≡ Err (Refused (Config ID_CHECK))
  pub high : GREATEST_EXTENSION < id → outcome ≡ Err (Refused (Config ID_CHECK))
  pub place : LEAST_EXTENSION ≤ id → id ≤ GREATEST_EXTENSION → outcome ≡ placed (place_of id packet)

-- the packet with the lowest 16 bits of the number at its place, or as before
abbrev pub stamped_in : List ℕ → ℕ → Result ℕ Fault → List ℕ
stamped_in packet number (Ok place) = stamped packet place (number % 65536)
stamped_in packet number (Err cause) = packet

abbrev pub done_by : Result ℕ Fault → Result (Unit {0}) Fault
done_by (Ok place) = Ok tt
done_by (Err cause) = Err cause

-- a stamp was asked for: it is put at the place, or why there is none is told
pub record Stamps (old new : List ℕ) (id number : ℕ) (outcome : Result (Unit {0}) Fault) : Type 0 where
  pub found : Result ℕ Fault
  pub is_place : Places old id found
  pub told : outcome ≡ done_by found
  pub packet : new ≡ stamped_in old number found
