-- What reading a report gives: the report, or the first check that fails.
use Rattle.std.specs.Prelude.{◌≡◌, ℕ, zero, suc, ◌+◌, ◌-◌, ◌*◌, ◌/◌, ◌%◌, List, [], ◌∷◌, length, take, drop, slice_index, Bool, nat_lt, nat_le, ◌==◌, ◌&&◌, if◌then◌else◌, Result, Ok, Err}
use Rattle.std.specs.Int.{w16, cast_signed}
use Rattle.std.specs.List.{list_any}
use Rattle.twcc_report.specs.declared.report.Status.{Status}
use Rattle.twcc_report.specs.declared.report.Status.TheVariants.{NotReceived, Small, Large}
use Rattle.twcc_report.specs.declared.fault.ReportFault.{ReportFault}
use Rattle.twcc_report.specs.declared.fault.ReportFault.TheVariants as faults
use Rattle.twcc_report.specs.declared.fault.ReadReport.{ReadReport}
use Rattle.twcc_report.specs.declared.fault.ReadReport.TheVariants as errors
use Rattle.twcc_report.specs.Chunks.{all_symbols, behind_chunks}
use Rattle.gcc_units.specs.Numbers.{number16, number32}
use Rattle.twcc_report.specs.Spelling.{Feedback, twos_complement24}

infixl 10 ◌>>=◌
abbrev pub ◌>>=◌ : {A B : Type 0} → Result A ReportFault → (A → Result B ReportFault) → Result B ReportFault
(Ok x) >>= f = f x
(Err e) >>= f = Err e

-- What a function returned, seen by view, is what reading gives, unless memory ran out.
abbrev pub Fails : {Y : Type 0} → ReadReport → Result Y ReportFault → Type 0
Fails errors.NoMemory read = Unit {0}
Fails (errors.Fault f) read = read ≡ Err f

abbrev pub Gives : {X Y : Type 0} → (X → Y) → Result X ReadReport → Result Y ReportFault → Type 0
Gives view (Ok x) read = read ≡ Ok (view x)
Gives view (Err e) read = Fails e read

-- the number of statuses, where the header is one
unfoldable pub header_at : List ℕ → Result ℕ ReportFault
header_at bytes =
    if nat_lt (length bytes) 20 then Err faults.Short
    else (if length bytes == 4 * number16 bytes 2 + 4 then
    (if slice_index bytes 0 / 64 == 2 then
    (if slice_index bytes 0 % 32 == 15 then
    (if slice_index bytes 1 == 205 then
    (if number16 bytes 14 == 0 then Err faults.NoStatus else Ok (number16 bytes 14))
    else Err faults.NotFeedback)
    else Err faults.NotFeedback)
    else Err faults.Version)
    else Err faults.Length)

-- the symbols that count, and the bytes behind their chunks
unfoldable pub symbols_in : ℕ → List ℕ → Result (List ℕ × List ℕ) ReportFault
symbols_in count body = if nat_lt (length (all_symbols body)) count then Err faults.Chunks else Ok (take count (all_symbols body), behind_chunks count body)

-- no symbol is the reserved one
unfoldable pub unreserved : List ℕ → Result (Unit {0}) ReportFault
unreserved symbols = if list_any (λ s. s == 3) symbols then Err faults.Reserved else Ok tt

-- the status of a symbol, and the bytes behind its delta
unfoldable pub status_at : ℕ → List ℕ → Result (Status × List ℕ) ReportFault
status_at zero bytes = Ok (NotReceived, bytes)
status_at (suc zero) (delta ∷ bytes) = Ok (Small delta, bytes)
status_at (suc zero) [] = Err faults.Deltas
status_at (suc (suc n)) (high ∷ low ∷ bytes) = Ok (Large (cast_signed w16 (high * 256 + low)), bytes)
status_at (suc (suc n)) bytes = Err faults.Deltas

unfoldable pub statuses_at : List ℕ → List ℕ → Result (List Status × List ℕ) ReportFault
statuses_at [] bytes = Ok ([], bytes)
statuses_at (symbol ∷ symbols) bytes = do
  first ← status_at symbol bytes
  others ← statuses_at symbols first.1
  Ok (first.0 ∷ others.0, others.1)

-- whether the rest ends as it may
abbrev pub ends_well : ℕ → List ℕ → Bool
ends_well bit rest =
    let n = slice_index rest (length rest - 1) in
    if bit == 0 then nat_le (length rest) 3 else (nat_le 1 n && nat_le n (length rest) && nat_le (length rest) (n + 3))

unfoldable pub end_at : ℕ → List ℕ → Result (Unit {0}) ReportFault
end_at bit rest = if ends_well bit rest then Ok tt else Err faults.Padding

-- the report, or the first check that fails
unfoldable pub read_of : List ℕ → Result Feedback ReportFault
read_of bytes = do
  count ← header_at bytes
  found ← symbols_in count (drop 20 bytes)
  passed ← unreserved found.0
  read ← statuses_at found.0 found.1
  ended ← end_at (slice_index bytes 0 / 32 % 2) read.1
  Ok (record {
    sender = number32 bytes 4;
    media = number32 bytes 8;
    base = number16 bytes 12;
    reference = twos_complement24 (slice_index bytes 16 * 65536 + number16 bytes 17);
    feedback = slice_index bytes 19;
    statuses = read.0;
  })
