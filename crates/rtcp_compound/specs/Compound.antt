-- The packets of RTCP that stand one behind the other in what a network hands over.
-- RFC 3550, section 6.1 has compound packets, RFC 5506 those of reduced size, which are cut in the same way.
use Rattle.std.specs.Prelude.{◌≡◌, ℕ, ◌+◌, ◌*◌, ◌/◌, ◌%◌, ◌<◌, ◌≤◌, ◌==◌, ◌&&◌, Bool, List, ◌++◌, length, take, drop, slice_index, All}
use Rattle.std.specs.List.{flat_map}
use Rattle.gcc_units.specs.Numbers.{number16}
use Rattle.rtcp_compound.specs.declared.cutting.Part.{Part}
use Rattle.rtcp_compound.specs.declared.cutting.ReadCompound.{ReadCompound}
use Rattle.rtcp_compound.specs.declared.cutting.ReadCompound.TheVariants.{NoPacket, NoMemory}

-- one packet of RTCP: version 2, and as many words of four bytes as its length field says, and one (RFC 3550, section 6.4.1)
pub record IsPacket (packet : List ℕ) : Type 0 where
  pub head : 4 ≤ length packet
  pub version : slice_index packet 0 / 64 ≡ 2
  pub whole : length packet ≡ 4 * number16 packet 2 + 4

-- all bytes of packets, one behind the other
abbrev pub joined : List (List ℕ) → List ℕ
joined packets = flat_map (λ (packet : List ℕ). packet) packets

-- the bytes are these packets of RTCP
pub record ArePackets (packets : List (List ℕ)) (bytes : List ℕ) : Type 0 where
  pub each : All IsPacket packets
  pub whole : joined packets ≡ bytes

-- a transport-wide feedback packet: format 15 and packet type 205 (draft-holmer-rmcat-transport-wide-cc-extensions-01, section 3.1)
abbrev pub is_feedback : List ℕ → Bool
is_feedback packet = slice_index packet 0 % 32 == 15 && slice_index packet 1 == 205

-- the bytes of a part
abbrev pub part_of : List ℕ → Part → List ℕ
part_of bytes part = take part.len (drop part.start bytes)

-- no packet of RTCP stands at the front
abbrev pub BeginsWithNone : List ℕ → Type 0
BeginsWithNone bytes = (packet rest : List ℕ) → IsPacket packet → bytes ≡ packet ++ rest → ⊥

-- Packets stand up to this place, bytes stand behind it, and these begin with no packet.
pub record FailsAt (bytes : List ℕ) (place : ℕ) : Type 0 where
  pub packets : List (List ℕ)
  pub each : All IsPacket packets
  pub place_is : place ≡ length (joined packets)
  pub front : bytes ≡ joined packets ++ drop place bytes
  pub some : place < length bytes
  pub none : BeginsWithNone (drop place bytes)

-- at a place without a packet
abbrev pub IfNoPacket : ReadCompound → (ℕ → Type 0) → Type 0
IfNoPacket (NoPacket place) P = P place
IfNoPacket NoMemory P = Unit {0}
