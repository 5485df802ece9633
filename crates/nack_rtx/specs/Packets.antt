-- A packet that is sent again (RFC 4588, section 4).
use Rattle.std.specs.Prelude.{ℕ, ◌+◌, ◌-◌, ◌*◌, ◌/◌, List, [], ◌∷◌, ◌++◌, take, drop, slice_index}
use Rattle.std.specs.Int.{w16, w32, to_be_bytes}
use Rattle.rtp_wire.specs.Place.{header_len}

-- Payload type, sequence number and SSRC are new, and the old sequence number stands behind the header. All other bytes are as they
-- were, the marker bit too; that the extension is among them is this project's own choice.
abbrev pub resent_packet : ℕ → ℕ → ℕ → List ℕ → List ℕ
resent_packet payload seq ssrc packet =
    take 1 packet ++ (slice_index packet 1 / 128 * 128 + payload) ∷ [] ++ to_be_bytes w16 seq ++ take 4 (drop 4 packet) ++ to_be_bytes w32 ssrc
    ++ take (header_len packet - 12) (drop 12 packet) ++ take 2 (drop 2 packet) ++ drop (header_len packet) packet
