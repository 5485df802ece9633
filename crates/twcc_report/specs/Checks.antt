-- What is asked of a report's bytes, check by check in their order. A check is named by its fault.
use Rattle.std.specs.Prelude.{◌≡◌, ◌≢◌, ℕ, ◌+◌, ◌*◌, ◌/◌, ◌%◌, ◌<◌, ◌≤◌, ◌↔◌, List, length, take, drop, slice_index, sum, Ok, Err}
use Rattle.std.specs.List.{flat_map, AllByRecursion}
use Rattle.twcc_report.specs.declared.fault.ReportFault.{ReportFault}
use Rattle.twcc_report.specs.declared.fault.ReportFault.TheVariants.{Short, Length, Version, NotFeedback, NoStatus, Chunks, Reserved, Deltas, Padding}
use Rattle.twcc_report.specs.declared.fault.ReadReport.{ReadReport}
use Rattle.twcc_report.specs.declared.fault.ReadReport.TheVariants as errors
use Rattle.twcc_report.specs.Chunks.{symbols_of, BeginsWith}
use Rattle.gcc_units.specs.Numbers.{number16}
use Rattle.twcc_report.specs.Spelling.{Feedback, Fits, Spells, EndsWell}
use Rattle.twcc_report.specs.Reading.{read_of}

-- which check comes when
abbrev pub order : ReportFault → ℕ
order Short = 1
order Length = 2
order Version = 3
order NotFeedback = 4
order NoStatus = 5
order Chunks = 6
order Reserved = 7
order Deltas = 8
order Padding = 9

-- the status count, and the symbols that count of some chunks
abbrev pub status_count : List ℕ → ℕ
status_count bytes = number16 bytes 14

abbrev pub counted : List ℕ → List ℕ → List ℕ
counted bytes chunks = take (status_count bytes) (flat_map symbols_of chunks)

-- the bytes of deltas for symbols: none for 0, one for 1, two for 2
abbrev pub delta_len : List ℕ → ℕ
delta_len symbols = sum symbols

-- The chunks of the bytes are these, and then come these bytes.
abbrev pub HasChunks : List ℕ → List ℕ → List ℕ → Type 0
HasChunks bytes chunks behind = BeginsWith (status_count bytes) (drop 20 bytes) chunks behind

-- what a check asks
abbrev pub Passes : ReportFault → List ℕ → Type 0
-- the header is there
Passes Short bytes = 20 ≤ length bytes
-- the length field says how many words there are, less one
Passes Length bytes = length bytes ≡ 4 * number16 bytes 2 + 4
-- the first two bits are the version, 2
Passes Version bytes = slice_index bytes 0 / 64 ≡ 2
-- the format is 15 and the packet type 205
Passes NotFeedback bytes = (slice_index bytes 0 % 32 ≡ 15) × (slice_index bytes 1 ≡ 205)
-- there is a status
Passes NoStatus bytes = status_count bytes ≢ 0
-- there are chunks for all statuses
Passes Chunks bytes = (chunks : List ℕ) × (behind : List ℕ) × HasChunks bytes chunks behind
-- no symbol that counts is the reserved one
Passes Reserved bytes = (chunks behind : List ℕ) → HasChunks bytes chunks behind → AllByRecursion (λ s. s ≢ 3) (counted bytes chunks)
-- the deltas are there
Passes Deltas bytes = (chunks behind : List ℕ) → HasChunks bytes chunks behind → delta_len (counted bytes chunks) ≤ length behind
-- the bytes behind the last delta end as they may
Passes Padding bytes =
    (chunks behind : List ℕ) → HasChunks bytes chunks behind → EndsWell (slice_index bytes 0 / 32 % 2) (drop (delta_len (counted bytes chunks)) behind)

-- The check fails, and each one before it passes.
pub record FailsFirst (check : ReportFault) (bytes : List ℕ) : Type 0 where
  pub fails : Passes check bytes → ⊥
  pub before : (earlier : ReportFault) → order earlier < order check → Passes earlier bytes

-- What reading gives is told by the first check that fails, or by the report that the bytes spell.
pub record IsByChecks (bytes : List ℕ) : Type 0 where
  pub faults : (fault : ReportFault) → (read_of bytes ≡ Err fault) ↔ FailsFirst fault bytes
  pub reports : (f : Feedback) → (read_of bytes ≡ Ok f) ↔ (Fits f × Spells f bytes)
  pub passes : (f : Feedback) → Fits f → Spells f bytes → (check : ReportFault) → Passes check bytes

-- An error that reading may give: the fault of the check that fails first.
abbrev pub IsCause : List ℕ → ReadReport → Type 0
IsCause bytes errors.NoMemory = Unit {0}
IsCause bytes (errors.Fault fault) = FailsFirst fault bytes
