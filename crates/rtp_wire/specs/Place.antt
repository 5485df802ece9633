-- The place of the transport-wide sequence number in an RTP packet, or the first check that fails.
-- RFC 3550, section 5.1 has the header, RFC 8285, section 4.2 the one-byte form of an extension.
use Rattle.std.specs.Prelude.{ℕ, zero, suc, ◌+◌, ◌*◌, ◌/◌, ◌%◌, List, [], ◌∷◌, length, take, drop, slice_index, nat_lt, nat_le, ◌==◌, if◌then◌else◌, Result, Ok, Err}
use Rattle.byteorder.specs.Endian.{big_number}
use Rattle.gcc_units.specs.declared.limits.TheConstants.{LEAST_PACKET, GREATEST_PACKET}
use Rattle.rtp_wire.specs.declared.packet.WireFault.{WireFault}
use Rattle.rtp_wire.specs.declared.packet.WireFault.TheVariants.{Short, Long, Version, BadExtension, NoExtension}

-- the field of 16 bits at this place, and that of 32 bits
abbrev pub field16 : ℕ → List ℕ → ℕ
field16 at bytes = big_number 2 (drop at bytes)

abbrev pub field32 : ℕ → List ℕ → ℕ
field32 at bytes = big_number 4 (drop at bytes)

-- where the list of contributing sources ends: so many of four bytes each stand behind the fixed header
abbrev pub sources_end : List ℕ → ℕ
sources_end bytes = LEAST_PACKET + 4 * (slice_index bytes 0 % 16)

-- where the extension's elements begin, behind its profile and its length, and how many bytes they have
abbrev pub extension_start : List ℕ → ℕ
extension_start bytes = sources_end bytes + 4

abbrev pub extension_len : List ℕ → ℕ
extension_len bytes = 4 * field16 (sources_end bytes + 2) bytes

-- the bytes of the whole header: the fixed part, the contributing sources and the extension
abbrev pub header_len : List ℕ → ℕ
header_len bytes = extension_start bytes + extension_len bytes

abbrev pub extension : List ℕ → List ℕ
extension bytes = take (extension_len bytes) (drop (extension_start bytes) bytes)

-- The elements from the front: `at` is the place of the next byte, and so many bytes are still data of the element before.
unfoldable pub walk : ℕ → ℕ → ℕ → List ℕ → Result ℕ WireFault
walk id at n [] = Err NoExtension
walk id at (suc n) (b ∷ rest) = walk id (at + 1) n rest
walk id at zero (b ∷ rest) =
    if b == 0 then walk id (at + 1) 0 rest
    else (if nat_lt b 16 then Err NoExtension
    else (if nat_le 240 b then Err NoExtension
    else (if nat_lt (length rest) (b % 16 + 1) then Err BadExtension
    else (if b == 16 * id + 1 then Ok (at + 1)
    else walk id (at + 1) (b % 16 + 1) rest))))

-- where the two bytes of the number stand
unfoldable pub place_of : ℕ → List ℕ → Result ℕ WireFault
place_of id bytes =
    if nat_lt (length bytes) LEAST_PACKET then Err Short
    else (if nat_lt GREATEST_PACKET (length bytes) then Err Long
    else (if slice_index bytes 0 / 64 == 2 then
    (if nat_lt (length bytes) (sources_end bytes) then Err Short
    else (if slice_index bytes 0 / 16 % 2 == 0 then Err NoExtension
    else (if nat_lt (length bytes) (extension_start bytes) then Err BadExtension
    else (if field16 (sources_end bytes) bytes == 48862 then
    (if nat_lt (length bytes) (extension_start bytes + extension_len bytes) then Err BadExtension
    else walk id (extension_start bytes) 0 (extension bytes))
    else Err NoExtension))))
    else Err Version))
