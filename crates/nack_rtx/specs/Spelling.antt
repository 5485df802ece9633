-- NACKs, and the bytes that spell them (RFC 4585, section 6.2.1; the padding of RFC 3550, section 6.4.1).
use Rattle.std.specs.Prelude.{◌≡◌, ℕ, ◌+◌, ◌-◌, ◌*◌, ◌/◌, ◌%◌, ◌^◌, ◌<◌, ◌≤◌, List, [], ◌∷◌, ◌++◌, length, slice_index}
use Rattle.std.specs.Int.{w16, w32, to_be_bytes}
use Rattle.std.specs.List.{flat_map, AllByRecursion}
use Rattle.nack_rtx.specs.declared.nack.Nack.{Nack}
use Rattle.nack_rtx.specs.Naming.{named_by, first_of}

-- a NACK without the room of its list
pub record Asked : Type 0 where
  pub sender : ℕ
  pub media : ℕ
  pub lost : List ℕ

abbrev pub view : Nack → Asked
view n = record { sender = n.sender; media = n.media; lost = n.lost.items }

-- The 12 bytes before the pairs, the first of them with version 2 and format 1. The padding bit and the length in words less one
-- are no part of the NACK.
abbrev pub header : ℕ → ℕ → ℕ → ℕ → List ℕ
header bit words sender media = (129 + 32 * bit) ∷ 205 ∷ to_be_bytes w16 words ++ to_be_bytes w32 sender ++ to_be_bytes w32 media

-- a pair: its own number, and the bits of those behind it
abbrev pub pair_bytes : ℕ × ℕ → List ℕ
pair_bytes p = (p.0 / 256 % 256) ∷ (p.0 % 256) ∷ (p.1 / 256 % 256) ∷ (p.1 % 256) ∷ []

abbrev pub PairFits : ℕ × ℕ → Type 0
PairFits p = (p.0 < 65536) × (p.1 < 65536)

-- With the padding bit the last bytes are padding: whole words, counted by the last of them.
pub record EndsPadded (padding : List ℕ) : Type 0 where
  pub some : 4 ≤ length padding
  pub whole : length padding % 4 ≡ 0
  pub count : slice_index padding (length padding - 1) ≡ length padding

abbrev pub IsPadding : ℕ → List ℕ → Type 0
IsPadding bit padding = (bit ≡ 0 → padding ≡ []) × (bit ≡ 1 → EndsPadded padding)

-- The bytes are a spelling of the NACK: its header, pairs that name what is lost, and padding. They are whole words, as many as the
-- length field can tell.
pub record Spells (n : Asked) (bytes : List ℕ) : Type 0 where
  pub pairs : List (ℕ × ℕ)
  pub padding : List ℕ
  pub bit : ℕ
  pub bit_fits : bit < 2
  pub sender_fits : n.sender < 2 ^ 32
  pub media_fits : n.media < 2 ^ 32
  pub some : 1 ≤ length pairs
  pub fit : AllByRecursion PairFits pairs
  pub parts : bytes ≡ header bit (length bytes / 4 - 1) n.sender n.media ++ (flat_map pair_bytes pairs ++ padding)
  pub pads : IsPadding bit padding
  pub whole : length bytes % 4 ≡ 0
  pub short : length bytes ≤ 262144
  pub lost : n.lost ≡ first_of (named_by pairs)
