-- Reports, and the bytes that spell them
-- (draft-holmer-rmcat-transport-wide-cc-extensions-01, section 3.1; for the rest of the bytes this project's own rule).
use Rattle.std.specs.Prelude.{◌≡◌, ℕ, ℤ, pos, negsuc, FitsSigned, ◌+◌, ◌-◌, ◌*◌, ◌/◌, ◌%◌, ◌^◌, ◌<◌, ◌≤◌, ◌≤ℤ◌, ◌<ℤ◌, ◌-ℤ◌, List, [], ◌∷◌, ◌++◌, length, take, map, slice_index, nat_lt, if◌then◌else◌}
use Rattle.std.specs.Int.{w16, w32, to_be_bytes, cast_unsigned}
use Rattle.std.specs.List.{flat_map, AllByRecursion}
use Rattle.twcc_report.specs.declared.report.Status.{Status}
use Rattle.twcc_report.specs.declared.report.Status.TheVariants.{NotReceived, Small, Large}
use Rattle.twcc_report.specs.declared.report.Report.{Report}
use Rattle.twcc_report.specs.Chunks.{symbols_of, chunk_bytes, AreChunks}

-- a report without the room of its list
pub record Feedback : Type 0 where
  pub sender : ℕ
  pub media : ℕ
  pub base : ℕ
  pub reference : ℤ
  pub feedback : ℕ
  pub statuses : List Status

abbrev pub view : Report → Feedback
view r = record { sender = r.sender; media = r.media; base = r.base; reference = r.reference; feedback = r.feedback; statuses = r.statuses.items }

-- the symbol of a status, and the bytes of its delta
abbrev pub symbol : Status → ℕ
symbol NotReceived = 0
symbol (Small d) = 1
symbol (Large d) = 2

abbrev pub delta : Status → List ℕ
delta NotReceived = []
delta (Small d) = d ∷ []
delta (Large d) = to_be_bytes w16 (cast_unsigned w16 d)

abbrev pub StatusFits : Status → Type 0
StatusFits NotReceived = Unit {0}
StatusFits (Small d) = d < 256
StatusFits (Large d) = FitsSigned w16 d

-- what has a spelling
pub record Fits (f : Feedback) : Type 0 where
  pub sender : f.sender < 2 ^ 32
  pub media : f.media < 2 ^ 32
  pub base : f.base < 2 ^ 16
  pub low : negsuc 8388607 ≤ℤ f.reference
  pub high : f.reference <ℤ pos 8388608
  pub feedback : f.feedback < 256
  pub some : 1 ≤ length f.statuses
  pub few : length f.statuses < 65536
  pub statuses : AllByRecursion StatusFits f.statuses

-- a number of 24 bits in two's complement
abbrev pub twos_complement24 : ℕ → ℤ
twos_complement24 n = if nat_lt n 8388608 then pos n else pos n -ℤ pos 16777216

-- the low 24 bits
abbrev pub low24 : ℕ → List ℕ
low24 n = (n / 65536 % 256) ∷ (n / 256 % 256) ∷ (n % 256) ∷ []

-- The 20 bytes of the header, the first of them with version 2 and format 15. The padding bit and the length in words less one are
-- no part of the report.
abbrev pub header : ℕ → ℕ → Feedback → List ℕ
header bit words f =
    (143 + 32 * bit) ∷ 205 ∷ to_be_bytes w16 words ++ to_be_bytes w32 f.sender ++ to_be_bytes w32 f.media ++ to_be_bytes w16 f.base
    ++ to_be_bytes w16 (length f.statuses) ++ low24 (cast_unsigned w32 f.reference) ++ f.feedback ∷ []

-- Without the padding bit the rest has at most three bytes. With it the last byte counts the padding, and at most three bytes stand before it.
pub record EndsPadded (rest : List ℕ) : Type 0 where
  pub some : 1 ≤ slice_index rest (length rest - 1)
  pub inside : slice_index rest (length rest - 1) ≤ length rest
  pub few : length rest ≤ slice_index rest (length rest - 1) + 3

abbrev pub EndsWell : ℕ → List ℕ → Type 0
EndsWell bit rest = (bit ≡ 0 → length rest ≤ 3) × (bit ≡ 1 → EndsPadded rest)

-- The bytes are a spelling of the report: its header, chunks for its statuses, their deltas and a rest. They are whole words, as many
-- as the length field can tell.
pub record Spells (f : Feedback) (bytes : List ℕ) : Type 0 where
  pub bit : ℕ
  pub chunks : List ℕ
  pub rest : List ℕ
  pub bit_fits : bit < 2
  pub parts : bytes ≡ header bit (length bytes / 4 - 1) f ++ (chunk_bytes chunks ++ (flat_map delta f.statuses ++ rest))
  pub whole : length bytes % 4 ≡ 0
  pub short : length bytes ≤ 262144
  pub are_chunks : AreChunks (length f.statuses) chunks
  pub symbols : take (length f.statuses) (flat_map symbols_of chunks) ≡ map symbol f.statuses
  pub ends : EndsWell bit rest
