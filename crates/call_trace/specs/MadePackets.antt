-- The packets of a made trace, and the frames that they carry.
use Rattle.std.specs.Prelude.{ℕ, ◌-◌, ◌*◌, ◌/◌, ◌%◌, ◌^◌, max, List, [], ◌∷◌, ◌++◌, replicate}
use Rattle.std.specs.Int.{w16, w32, to_be_bytes, div_ceil}
use Rattle.gcc_units.specs.declared.class.Class.{Class}
use Rattle.gcc_units.specs.declared.class.Class.TheVariants.{Audio, Retransmission, Video, Fec}

-- one word of extension, whose one element has ID 3 and two bytes for the transport-wide number
abbrev pub extension : List ℕ
extension = 0xbe ∷ 0xde ∷ 0 ∷ 1 ∷ 0x31 ∷ 0 ∷ 0 ∷ 0 ∷ []

-- the packet with so many of its kind before it: its header with timestamp and SSRC, the extension, and zeros up to its size
abbrev pub packet : ℕ → ℕ → ℕ → ℕ → ℕ → List ℕ
packet payload_type ssrc before timestamp size =
    0x90 ∷ payload_type ∷ to_be_bytes w16 (before % 2 ^ 16) ++ to_be_bytes w32 (timestamp % 2 ^ 32) ++ to_be_bytes w32 ssrc ++ extension
    ++ replicate (size - 20) 0

-- the packet of a source at the millisecond t: audio counts 48 units in a millisecond, video 90; there are no other sources
abbrev pub made_packet : Class → ℕ → ℕ → ℕ → List ℕ
made_packet Audio before t size = packet 0x6f 0xbb before (48 * t) size
made_packet Video before t size = packet 0x60 0xaa before (90 * t) size
made_packet Retransmission before t size = []
made_packet Fec before t size = []

abbrev pub audio_packet : ℕ → ℕ → List ℕ
audio_packet before t = made_packet Audio before t 100

abbrev pub video_packet : ℕ → ℕ → ℕ → List ℕ
video_packet before t size = made_packet Video before t size

-- the bytes of a frame at this target rate, thirty frames a second; in how many packets they go, and how large each is
abbrev pub frame_bytes : ℕ → ℕ
frame_bytes target = target / 240

abbrev pub frame_packets : ℕ → ℕ
frame_packets target = max 1 (div_ceil (frame_bytes target) 1200)

abbrev pub packet_bytes : ℕ → ℕ
packet_bytes target = max 20 (div_ceil (frame_bytes target) (frame_packets target))
