-- Bytes spell no report of more statuses than may be.
use Rattle.std.proofs.Common.{◌≡◌, ℕ, suc, ◌+◌, ◌*◌, ◌<◌, ◌≤◌, ◌==◌, Bool, true, false, cond, nat_lt, Result, Ok, Err, List, [], ◌∷◌, length, All, slice_index, take, drop, inl, inr, ◌/◌, ◌%◌, refl, sym, ap, subst, arith}
use Rattle.std.proofs.lemmas.List.{length-take, get_or_past}
use Rattle.std.proofs.lemmas.List.Elements.{All-get_or}
use Rattle.std.proofs.lemmas.Bool.{cases_lt}
use Rattle.gcc_units.specs.declared.limits.TheConstants.{MOST_STATUSES}
use Rattle.twcc_report.specs.declared.report.Status.{Status}
use Rattle.twcc_report.specs.declared.fault.ReportFault.{ReportFault}
use Rattle.twcc_report.specs.declared.fault.ReportFault.TheVariants as faults
use Rattle.twcc_report.specs.Chunks.{all_symbols, behind_chunks}
use Rattle.gcc_units.specs.Numbers.{number16}
use Rattle.twcc_report.specs.Spelling.{Feedback}
use Rattle.twcc_report.specs.Reading.{◌>>=◌, header_at, symbols_in, unreserved, status_at, statuses_at, end_at, read_of}

-- what a step gave, where all steps give something
record Bound {A B : Type 0} (r : Result A ReportFault) (f : A → Result B ReportFault) (y : B) : Type 0 where
  found : A
  first : r ≡ Ok found
  rest : f found ≡ Ok y

bound : {A B : Type 0} (r : Result A ReportFault) (f : A → Result B ReportFault) (y : B) → (r >>= f) ≡ Ok y → Bound r f y
bound (Ok x) f y is = record { found = x; first = refl; rest = is }
bound (Err e) f y is = absurd cc

refuses : {A : Type 0} (b : Bool) (r : Result A ReportFault) (fault : ReportFault) (x : A) → cond b (Err fault) r ≡ Ok x → r ≡ Ok x
refuses true r fault x is = absurd cc
refuses false r fault x is = is

same_Ok : {A : Type 0} (x y : A) → ◌≡◌ {A = Result A ReportFault} (Ok x) (Ok y) → x ≡ y
same_Ok x y is = cc

header-last : (a b c d e f : Bool) (n count : ℕ)
    → cond a (Err faults.Short) (cond b (cond c (cond d (cond e (cond f (Err faults.NoStatus) (Ok n)) (Err faults.NotFeedback)) (Err faults.NotFeedback)) (Err faults.Version)) (Err faults.Length)) ≡ Ok count
    → n ≡ count
header-last true b c d e f n count is = absurd cc
header-last false false c d e f n count is = absurd cc
header-last false true false d e f n count is = absurd cc
header-last false true true false e f n count is = absurd cc
header-last false true true true false f n count is = absurd cc
header-last false true true true true true n count is = absurd cc
header-last false true true true true false n count is = same_Ok n count is

header-count : (bytes : List ℕ) (count : ℕ) → header_at bytes ≡ Ok count → number16 bytes 14 ≡ count
unfolding header_at
header-count bytes count is =
    header-last (nat_lt (length bytes) 20) (length bytes == 4 * number16 bytes 2 + 4) (slice_index bytes 0 / 64 == 2) (slice_index bytes 0 % 32 == 15)
    (slice_index bytes 1 == 205) (number16 bytes 14 == 0) (number16 bytes 14) count is

symbols-few : (count : ℕ) (body : List ℕ) (found : List ℕ × List ℕ) → symbols_in count body ≡ Ok found → length found.0 ≤ count
unfolding symbols_in
symbols-few count body found is =
    let same : (take count (all_symbols body), behind_chunks count body) ≡ found = same_Ok _ found (refuses (nat_lt (length (all_symbols body)) count) _ faults.Chunks found is) in
    subst (λ (p : List ℕ × List ℕ). length p.0 ≤ count) same (omega (arith, length-take count (all_symbols body)))

statuses-count : (symbols bytes : List ℕ) (read : List Status × List ℕ) → statuses_at symbols bytes ≡ Ok read → length read.0 ≡ length symbols
unfolding statuses_at
statuses-count [] bytes read is = let same : ([], bytes) ≡ read = same_Ok _ read is in subst (λ (p : List Status × List ℕ). length p.0 ≡ 0) same refl
statuses-count (symbol ∷ symbols) bytes read is =
    let one = bound (status_at symbol bytes) _ read is in
    let others = bound (statuses_at symbols one.found.1) _ read one.rest in
    let more : length others.found.0 ≡ length symbols = statuses-count symbols one.found.1 others.found others.first in
    let same : (one.found.0 ∷ others.found.0, others.found.1) ≡ read = same_Ok _ read others.rest in
    subst (λ (p : List Status × List ℕ). length p.0 ≡ suc (length symbols)) same (ap suc more)

pub few_statuses : (bytes : List ℕ) → All (λ b. b < 256) bytes → (report : Feedback) → read_of bytes ≡ Ok report → length report.statuses ≤ MOST_STATUSES
unfolding read_of
few_statuses bytes all report is =
    let counted = bound (header_at bytes) _ report is in
    let found = bound (symbols_in counted.found (drop 20 bytes)) _ report counted.rest in
    let passed = bound (unreserved found.found.0) _ report found.rest in
    let read = bound (statuses_at found.found.0 found.found.1) _ report passed.rest in
    let ended = bound (end_at (slice_index bytes 0 / 32 % 2) read.found.1) _ report read.rest in
    let same : read.found.0 ≡ report.statuses = ap (λ (f : Feedback). f.statuses) (same_Ok _ report ended.rest) in
    omega (
      arith,
      ap (length {A = Status}) same,
      statuses-count found.found.0 found.found.1 read.found read.first,
      symbols-few counted.found (drop 20 bytes) found.found found.first,
      header-count bytes counted.found counted.first,
      byte 14,
      byte 15,
    )
  where
    byte : (i : ℕ) → slice_index bytes i < 256
    byte i = elim (cases_lt i (length bytes)) [
      | inl lt ↦ All-get_or (λ b. b < 256) bytes i 0 lt all
      | inr past ↦ subst (λ b. b < 256) (sym (get_or_past bytes i 0 past)) (omega arith)
    ]
