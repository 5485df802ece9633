-- What reading a NACK gives: the NACK, or the first check that fails.
use Rattle.std.specs.Prelude.{◌≡◌, ℕ, ◌+◌, ◌-◌, ◌*◌, ◌/◌, ◌%◌, List, length, take, drop, slice_index, Bool, nat_lt, nat_le, ◌==◌, ◌&&◌, if◌then◌else◌, Result, Ok, Err}
use Rattle.nack_rtx.specs.declared.fault.NackFault.{NackFault}
use Rattle.nack_rtx.specs.declared.fault.NackFault.TheVariants as faults
use Rattle.nack_rtx.specs.declared.fault.ReadNack.{ReadNack}
use Rattle.nack_rtx.specs.declared.fault.ReadNack.TheVariants as errors
use Rattle.nack_rtx.specs.Naming.{named_in, first_of}
use Rattle.gcc_units.specs.Numbers.{number16, number32}
use Rattle.nack_rtx.specs.Spelling.{Asked}

infixl 10 ◌>>=◌
abbrev pub ◌>>=◌ : {A B : Type 0} → Result A NackFault → (A → Result B NackFault) → Result B NackFault
(Ok x) >>= f = f x
(Err e) >>= f = Err e

-- What a function returned, seen by view, is what reading gives, unless memory ran out.
abbrev pub Fails : {Y : Type 0} → ReadNack → Result Y NackFault → Type 0
Fails errors.NoMemory read = Unit {0}
Fails (errors.Fault f) read = read ≡ Err f

abbrev pub Gives : {X Y : Type 0} → (X → Y) → Result X ReadNack → Result Y NackFault → Type 0
Gives view (Ok x) read = read ≡ Ok (view x)
Gives view (Err e) read = Fails e read

-- the last byte, which counts the padding
abbrev pub last_byte : List ℕ → ℕ
last_byte bytes = slice_index bytes (length bytes - 1)

-- whether the last byte counts padding as it may
abbrev pub is_count : List ℕ → Bool
is_count bytes = last_byte bytes % 4 == 0 && (nat_le 4 (last_byte bytes) && nat_le (last_byte bytes + 16) (length bytes))

-- how many bytes of padding there are
unfoldable pub padding_at : List ℕ → Result ℕ NackFault
padding_at bytes =
    if nat_lt (length bytes) 16 then Err faults.Short
    else (if length bytes == 4 * number16 bytes 2 + 4 then
    (if slice_index bytes 0 / 64 == 2 then
    (if slice_index bytes 0 % 32 == 1 then
    (if slice_index bytes 1 == 205 then
    (if slice_index bytes 0 / 32 % 2 == 0 then Ok 0
    else (if is_count bytes then Ok (last_byte bytes) else Err faults.Padding))
    else Err faults.NotNack)
    else Err faults.NotNack)
    else Err faults.Version)
    else Err faults.Length)

-- the bytes of the pairs: those between the header and so many bytes of padding
abbrev pub pair_bytes_in : List ℕ → ℕ → List ℕ
pair_bytes_in bytes padding = take (length bytes - padding - 12) (drop 12 bytes)

-- the NACK, or the first check that fails
unfoldable pub nack_of : List ℕ → Result Asked NackFault
nack_of bytes = do
  padding ← padding_at bytes
  Ok (record {
    sender = number32 bytes 4;
    media = number32 bytes 8;
    lost = first_of (named_in (pair_bytes_in bytes padding));
  })
