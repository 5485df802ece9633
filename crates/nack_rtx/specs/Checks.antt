-- What is asked of a NACK's bytes, check by check in their order. A check is named by its fault.
use Rattle.std.specs.Prelude.{◌≡◌, ℕ, ◌+◌, ◌*◌, ◌/◌, ◌%◌, ◌<◌, ◌≤◌, ◌↔◌, List, length, slice_index, Ok, Err}
use Rattle.nack_rtx.specs.declared.fault.NackFault.{NackFault}
use Rattle.nack_rtx.specs.declared.fault.NackFault.TheVariants.{Short, Length, Version, NotNack, Padding}
use Rattle.nack_rtx.specs.declared.fault.ReadNack.{ReadNack}
use Rattle.nack_rtx.specs.declared.fault.ReadNack.TheVariants as errors
use Rattle.gcc_units.specs.Numbers.{number16}
use Rattle.nack_rtx.specs.Spelling.{Asked, Spells}
use Rattle.nack_rtx.specs.Reading.{last_byte, nack_of}

-- which check comes when
abbrev pub order : NackFault → ℕ
order Short = 1
order Length = 2
order Version = 3
order NotNack = 4
order Padding = 5

-- The last byte counts padding of whole words, and a pair stands before it.
pub record CountsPadding (bytes : List ℕ) : Type 0 where
  pub whole : last_byte bytes % 4 ≡ 0
  pub some : 4 ≤ last_byte bytes
  pub inside : last_byte bytes + 16 ≤ length bytes

-- what a check asks
abbrev pub Passes : NackFault → List ℕ → Type 0
-- the header and a pair are there
Passes Short bytes = 16 ≤ length bytes
-- the length field says how many words there are, less one
Passes Length bytes = length bytes ≡ 4 * number16 bytes 2 + 4
-- the first two bits are the version, 2
Passes Version bytes = slice_index bytes 0 / 64 ≡ 2
-- the format is 1 and the packet type 205
Passes NotNack bytes = (slice_index bytes 0 % 32 ≡ 1) × (slice_index bytes 1 ≡ 205)
-- where the padding bit is set, there is padding
Passes Padding bytes = slice_index bytes 0 / 32 % 2 ≡ 1 → CountsPadding bytes

-- The check fails, and each one before it passes.
pub record FailsFirst (check : NackFault) (bytes : List ℕ) : Type 0 where
  pub fails : Passes check bytes → ⊥
  pub before : (earlier : NackFault) → order earlier < order check → Passes earlier bytes

-- What reading gives is told by the first check that fails, or by the NACK that the bytes spell.
pub record IsByChecks (bytes : List ℕ) : Type 0 where
  pub faults : (fault : NackFault) → (nack_of bytes ≡ Err fault) ↔ FailsFirst fault bytes
  pub nacks : (n : Asked) → (nack_of bytes ≡ Ok n) ↔ Spells n bytes

-- An error that reading may give: the fault of the check that fails first.
abbrev pub IsCause : List ℕ → ReadNack → Type 0
IsCause bytes errors.NoMemory = Unit {0}
IsCause bytes (errors.Fault fault) = FailsFirst fault bytes
