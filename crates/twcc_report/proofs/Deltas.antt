-- Deltas: what is read is spelled so, what is spelled so is read, and when they end too soon.
use Rattle.std.proofs.Common.{◌≡◌, ◌≢◌, ℕ, ℤ, zero, suc, ◌+◌, ◌*◌, ◌/◌, ◌%◌, ◌<◌, ◌≤◌, ◌==◌, inl, inr, true, false, List, [], ◌∷◌, ◌++◌, length, drop, map, Ok, Err, refl, sym, ap, ◌∙◌, arith, w16, FitsSigned, eq-eqb}
use Rattle.std.specs.List.{flat_map, AllByRecursion, list_any}
use Rattle.std.specs.Int.{to_be_bytes, cast_signed, cast_unsigned}
use Rattle.std.proofs.lemmas.Int.{ints, of_z-to_z, to_z-of_z}
use Rattle.std.proofs.lemmas.List.Sums.{sum_by-cons}
use Rattle.std.proofs.lemmas.Bool.{cases_eq, ne_eqb}
use Rattle.twcc_report.specs.declared.fault.ReportFault.TheVariants as faults
use Rattle.twcc_report.specs.declared.report.Status.{Status}
use Rattle.twcc_report.specs.declared.report.Status.TheVariants.{NotReceived, Small, Large}
use Rattle.twcc_report.specs.Spelling.{symbol, delta, StatusFits}
use Rattle.twcc_report.specs.Checks.{delta_len}
use Rattle.twcc_report.specs.Reading.{status_at, statuses_at}
use Rattle.twcc_report.proofs.Chunking.{IsBytes, IsBytes-rest}

-- ---- the reserved symbol

pub no_three : (symbols : List ℕ) → list_any (λ s. s == 3) symbols ≡ false → AllByRecursion (λ s. s ≢ 3) symbols
no_three [] h = tt
no_three (s ∷ symbols) h = elim (cases_eq s 3) [
  | inl is ↦ absurd (let k = rw (eq-eqb s 3 is) at h in cc k)
  | inr ne ↦ (ne, no_three symbols (rw (ne_eqb s 3 ne) at h))
]

pub some_three : (symbols : List ℕ) → list_any (λ s. s == 3) symbols ≡ true → AllByRecursion (λ s. s ≢ 3) symbols → ⊥
some_three [] h a = cc h
some_three (s ∷ symbols) h a = some_three symbols (rw (ne_eqb s 3 a.0) at h) a.1

-- ---- a delta of sixteen bits

signed_again : (d : ℤ) → FitsSigned w16 d → cast_signed w16 (cast_unsigned w16 d / 256 % 256 * 256 + cast_unsigned w16 d % 256) ≡ d
signed_again d fits =
    let small : cast_unsigned w16 d < 65536 = omega (arith, ints) in
    let word : cast_unsigned w16 d / 256 % 256 * 256 + cast_unsigned w16 d % 256 ≡ cast_unsigned w16 d = omega arith in
    ap (cast_signed w16) word ∙ to_z-of_z w16 d fits

signed_fits : (n : ℕ) → n < 65536 → FitsSigned w16 (cast_signed w16 n)
signed_fits n h = omega (arith, ints)

signed_bytes : (high low : ℕ) → high < 256 → low < 256 → to_be_bytes w16 (cast_unsigned w16 (cast_signed w16 (high * 256 + low))) ≡ high ∷ low ∷ []
signed_bytes high low h l =
    let small : high * 256 + low < 65536 = omega arith in
    let eh : (high * 256 + low) / 256 % 256 ≡ high = omega arith in
    let el : (high * 256 + low) % 256 ≡ low = omega arith in
    ap (to_be_bytes w16) (of_z-to_z w16 (high * 256 + low) small) ∙ rw (eh, el) refl

-- ---- what is spelled is read

pub statuses_again : (statuses : List Status) (rest : List ℕ) → AllByRecursion StatusFits statuses
    → statuses_at (map symbol statuses) (flat_map delta statuses ++ rest) ≡ Ok (statuses, rest)
unfolding statuses_at status_at
statuses_again [] rest h = refl
statuses_again (NotReceived ∷ ss) rest h = rw (statuses_again ss rest h.1) refl
statuses_again (Small d ∷ ss) rest h = rw (statuses_again ss rest h.1) refl
statuses_again (Large d ∷ ss) rest h = rw (signed_again d h.0, statuses_again ss rest h.1) refl

-- ---- what is read is spelled

large_parts : (high low : ℕ) (deltas rest behind : List ℕ) → high < 256 → low < 256 → rest ≡ deltas ++ behind
    → high ∷ low ∷ rest ≡ (to_be_bytes w16 (cast_unsigned w16 (cast_signed w16 (high * 256 + low))) ++ deltas) ++ behind
large_parts high low deltas rest behind h l e =
    ap (λ (xs : List ℕ). high ∷ low ∷ xs) e ∙ ap (λ (xs : List ℕ). (xs ++ deltas) ++ behind) (sym (signed_bytes high low h l))

len-cons : (s : ℕ) (ss : List ℕ) → delta_len (s ∷ ss) ≡ s + delta_len ss
len-cons s ss = sum_by-cons (λ k. k) s ss

pub record AreRead (symbols bytes : List ℕ) : Type 0 where
  pub statuses : List Status
  pub read : statuses_at symbols bytes ≡ Ok (statuses, drop (delta_len symbols) bytes)
  pub parts : bytes ≡ flat_map delta statuses ++ drop (delta_len symbols) bytes
  pub symbols_are : map symbol statuses ≡ symbols
  pub fit : AllByRecursion StatusFits statuses

read_none : (ss bytes : List ℕ) → AreRead ss bytes → AreRead (0 ∷ ss) bytes
unfolding statuses_at status_at
read_none ss bytes more =
    let e : delta_len (0 ∷ ss) ≡ delta_len ss = omega (arith, len-cons 0 ss) in
    record {
      statuses = NotReceived ∷ more.statuses;
      read = rw (e, more.read) refl;
      parts = rw e more.parts;
      symbols_are = ap (λ (xs : List ℕ). 0 ∷ xs) more.symbols_are;
      fit = (tt, more.fit);
    }

read_small : (d : ℕ) (ss rest : List ℕ) → d < 256 → AreRead ss rest → AreRead (1 ∷ ss) (d ∷ rest)
unfolding statuses_at status_at
read_small d ss rest fits more =
    let e : delta_len (1 ∷ ss) ≡ suc (delta_len ss) = omega (arith, len-cons 1 ss) in
    record {
      statuses = Small d ∷ more.statuses;
      read = rw (e, more.read) refl;
      parts = rw e (ap (λ (xs : List ℕ). d ∷ xs) more.parts);
      symbols_are = ap (λ (xs : List ℕ). 1 ∷ xs) more.symbols_are;
      fit = (fits, more.fit);
    }

read_large : (high low : ℕ) (ss rest : List ℕ) → high < 256 → low < 256 → AreRead ss rest → AreRead (2 ∷ ss) (high ∷ low ∷ rest)
unfolding statuses_at status_at
read_large high low ss rest h l more =
    let e : delta_len (2 ∷ ss) ≡ suc (suc (delta_len ss)) = omega (arith, len-cons 2 ss) in
    record {
      statuses = Large (cast_signed w16 (high * 256 + low)) ∷ more.statuses;
      read = rw (e, more.read) refl;
      parts = rw e (large_parts high low (flat_map delta more.statuses) rest (drop (delta_len ss) rest) h l more.parts);
      symbols_are = ap (λ (xs : List ℕ). 2 ∷ xs) more.symbols_are;
      fit = (signed_fits (high * 256 + low) (omega arith), more.fit);
    }

pub deltas_read : (symbols bytes : List ℕ) → IsBytes bytes → AllByRecursion (λ s. s < 4) symbols → AllByRecursion (λ s. s ≢ 3) symbols
    → delta_len symbols ≤ length bytes → AreRead symbols bytes
unfolding statuses_at
deltas_read [] bytes fits small others enough = record { statuses = []; read = refl; parts = refl; symbols_are = refl; fit = tt }
deltas_read (zero ∷ ss) bytes fits small others enough =
    read_none ss bytes (deltas_read ss bytes fits small.1 others.1 (omega (arith, enough, len-cons 0 ss)))
deltas_read (suc zero ∷ ss) [] fits small others enough = absurd (omega (arith, enough, len-cons 1 ss))
deltas_read (suc zero ∷ ss) (d ∷ rest) fits small others enough =
    read_small d ss rest (fits 0) (deltas_read ss rest (IsBytes-rest d rest fits) small.1 others.1 (omega (arith, enough, len-cons 1 ss)))
deltas_read (suc (suc zero) ∷ ss) [] fits small others enough = absurd (omega (arith, enough, len-cons 2 ss))
deltas_read (suc (suc zero) ∷ ss) (b ∷ []) fits small others enough = absurd (omega (arith, enough, len-cons 2 ss))
deltas_read (suc (suc zero) ∷ ss) (high ∷ low ∷ rest) fits small others enough =
    read_large high low ss rest (fits 0) (fits 1)
    (deltas_read ss rest (IsBytes-rest low rest (IsBytes-rest high (low ∷ rest) fits)) small.1 others.1 (omega (arith, enough, len-cons 2 ss)))
deltas_read (suc (suc (suc zero)) ∷ ss) bytes fits small others enough = absurd (others.0 refl)
deltas_read (suc (suc (suc (suc n))) ∷ ss) bytes fits small others enough = absurd (omega (arith, small.0))

-- ---- deltas that end too soon

pub deltas_short : (symbols bytes : List ℕ) → AllByRecursion (λ s. s < 4) symbols → AllByRecursion (λ s. s ≢ 3) symbols
    → length bytes < delta_len symbols → statuses_at symbols bytes ≡ Err faults.Deltas
unfolding statuses_at status_at
deltas_short [] bytes small others short = absurd (omega (arith, short))
deltas_short (zero ∷ ss) bytes small others short = rw (deltas_short ss bytes small.1 others.1 (omega (arith, short, len-cons 0 ss))) refl
deltas_short (suc zero ∷ ss) [] small others short = refl
deltas_short (suc zero ∷ ss) (d ∷ rest) small others short = rw (deltas_short ss rest small.1 others.1 (omega (arith, short, len-cons 1 ss))) refl
deltas_short (suc (suc zero) ∷ ss) [] small others short = refl
deltas_short (suc (suc zero) ∷ ss) (b ∷ []) small others short = refl
deltas_short (suc (suc zero) ∷ ss) (high ∷ low ∷ rest) small others short = rw (deltas_short ss rest small.1 others.1 (omega (arith, short, len-cons 2 ss))) refl
deltas_short (suc (suc (suc zero)) ∷ ss) bytes small others short = absurd (others.0 refl)
deltas_short (suc (suc (suc (suc n))) ∷ ss) bytes small others short = absurd (omega (arith, small.0))
