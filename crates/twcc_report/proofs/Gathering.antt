-- The loop that gathers the symbols of chunks.
use Rattle.std.proofs.Common.{◌≡◌, ℕ, zero, suc, ◌+◌, ◌-◌, ◌*◌, ◌<◌, ◌≤◌, List, [], ◌∷◌, ◌++◌, length, take, drop, map, get_or, min, Result, Ok, Err, refl, ap, sym, ◌∙◌, arith, inl, inr, append_assoc, append-nil, length-append, length-take}
use Rattle.std.proofs.lemmas.Bool.{lt-ltb, le-ltb}
use Rattle.std.specs.List.{range_with_len}
use Rattle.std.proofs.lemmas.Bool.{cases_lt}
use Rattle.std.proofs.lemmas.List.{take_all}
use Rattle.std.proofs.lemmas.List.FromFn.{take-map-range_with_len, length-map-range_with_len}
use Rattle.twcc_report.specs.declared.fault.ReportFault.{ReportFault}
use Rattle.twcc_report.specs.declared.fault.ReportFault.TheVariants as faults
use Rattle.twcc_report.specs.Chunks.{symbol_at, symbol_count, symbols_of, all_symbols, behind_chunks}
use Rattle.twcc_report.specs.Reading.{symbols_in}
use Rattle.twcc_report.proofs.Chunking.{take_both}

-- what was gathered, and what the rest gives, is what all gives
pub record SoFar (count : ℕ) (body symbols rest : List ℕ) : Type 0 where
  pub few : length symbols ≤ count
  pub all : symbols ++ take (count - length symbols) (all_symbols rest) ≡ take count (all_symbols body)
  pub behind : behind_chunks (count - length symbols) rest ≡ behind_chunks count body

pub begins : (count : ℕ) (body symbols : List ℕ) → symbols ≡ [] → SoFar count body symbols body
begins count body symbols e =
    let n : count - length symbols ≡ count = omega (arith, ap length e) in
    record {
      few = omega (arith, ap length e);
      all = ap (λ (xs : List ℕ). xs ++ take (count - length symbols) (all_symbols body)) e ∙ ap (λ k. take k (all_symbols body)) n;
      behind = ap (λ k. behind_chunks k body) n;
    }

behind_step : (m : ℕ) (high low : ℕ) (rest : List ℕ) → 0 < m
    → behind_chunks m (high ∷ low ∷ rest) ≡ behind_chunks (m - length (symbols_of (high * 256 + low))) rest
unfolding behind_chunks
behind_step zero high low rest some = absurd (omega arith)
behind_step (suc m) high low rest some = refl

behind_none : (rest : List ℕ) → behind_chunks 0 rest ≡ rest
unfolding behind_chunks
behind_none rest = refl

steps_on : (count : ℕ) (body symbols : List ℕ) (high low : ℕ) (rest more : List ℕ) → length symbols < count
    → more ≡ symbols ++ take (count - length symbols) (symbols_of (high * 256 + low))
    → SoFar count body symbols (high ∷ low ∷ rest) → SoFar count body more rest
steps_on count body symbols high low rest more some e so_far =
    let s : List ℕ = symbols_of (high * 256 + low) in
    let m : ℕ = count - length symbols in
    let len : length more ≡ length symbols + min m (length s) = ap length e ∙ length-append symbols (take m s) ∙ ap (λ k. length symbols + k) (length-take m s) in
    let left : count - length more ≡ m - length s = omega (arith, len) in
    record {
      few = omega (arith, len);
      all = ap (λ (xs : List ℕ). xs ++ take (count - length more) (all_symbols rest)) e
          ∙ append_assoc symbols (take m s) (take (count - length more) (all_symbols rest))
          ∙ ap (λ k. symbols ++ (take m s ++ take k (all_symbols rest))) left
          ∙ ap (λ (xs : List ℕ). symbols ++ xs) (sym (take_both m s (all_symbols rest)))
          ∙ so_far.all;
      behind = ap (λ k. behind_chunks k rest) left ∙ sym (behind_step m high low rest (omega arith)) ∙ so_far.behind;
    }

pub goes_on : (count : ℕ) (body symbols rest after more : List ℕ) → length symbols < count → 2 ≤ length rest → after ≡ drop 2 rest
    → more ≡ symbols ++ take (count - length symbols) (symbols_of (get_or rest 0 0 * 256 + get_or rest 1 0))
    → SoFar count body symbols rest → SoFar count body more after
goes_on count body symbols [] after more some two ea e so_far = absurd (omega arith)
goes_on count body symbols (high ∷ []) after more some two ea e so_far = absurd (omega arith)
goes_on count body symbols (high ∷ low ∷ rest) after more some two ea e so_far =
    let r : after ≡ rest = ea in
    rw r (steps_on count body symbols high low rest more some e so_far)

take_nil : (n : ℕ) → take {A = ℕ} n [] ≡ []
take_nil zero = refl
take_nil (suc n) = refl

no_symbols : (rest : List ℕ) → length rest < 2 → all_symbols rest ≡ []
no_symbols [] few = refl
no_symbols (b ∷ []) few = refl
no_symbols (high ∷ low ∷ rest) few = absurd (omega arith)

pub too_few : (count : ℕ) (body symbols rest : List ℕ) → length symbols < count → length rest < 2 → SoFar count body symbols rest
    → symbols_in count body ≡ Err faults.Chunks
unfolding symbols_in
too_few count body symbols rest some short so_far =
    let none : take (count - length symbols) (all_symbols rest) ≡ [] = ap (take (count - length symbols)) (no_symbols rest short) ∙ take_nil (count - length symbols) in
    let same : symbols ≡ take count (all_symbols body) = sym (append-nil symbols) ∙ ap (λ (xs : List ℕ). symbols ++ xs) (sym none) ∙ so_far.all in
    let few : length (all_symbols body) < count = omega (arith, ap length same, length-take count (all_symbols body)) in
    rw (lt-ltb (length (all_symbols body)) count few) refl

found_same : (xs ys vs ws : List ℕ) → xs ≡ ys → vs ≡ ws → (let r : Result (List ℕ × List ℕ) ReportFault = Ok (xs, vs) in r) ≡ Ok (ys, ws)
found_same xs ys vs ws e f = cc

pub is_done : (count : ℕ) (body symbols rest : List ℕ) → count ≤ length symbols → SoFar count body symbols rest
    → symbols_in count body ≡ Ok (symbols, rest)
unfolding symbols_in
is_done count body symbols rest enough so_far =
    let left : count - length symbols ≡ 0 = omega arith in
    let same : symbols ≡ take count (all_symbols body) =
    sym (append-nil symbols) ∙ ap (λ k. symbols ++ take k (all_symbols rest)) (sym left) ∙ so_far.all in
    let long : count ≤ length (all_symbols body) = omega (arith, ap length same, length-take count (all_symbols body)) in
    let behind : rest ≡ behind_chunks count body = sym (behind_none rest) ∙ ap (λ k. behind_chunks k rest) (sym left) ∙ so_far.behind in
    rw (le-ltb (length (all_symbols body)) count long) (found_same (take count (all_symbols body)) symbols (behind_chunks count body) rest (sym same) (sym behind))

-- ---- the symbols of one chunk

-- so many of them as the loop puts
pub taken : (word more left : ℕ) → more ≡ min (symbol_count word) left → map (symbol_at word) (range_with_len 0 more) ≡ take left (symbols_of word)
unfolding symbols_of
taken word more left e = elim (cases_lt (symbol_count word) left) [
  | inl all ↦
      let n : more ≡ symbol_count word = omega arith in
      ap (λ k. map (symbol_at word) (range_with_len 0 k)) n
      ∙ sym (take_all left (map (symbol_at word) (range_with_len 0 (symbol_count word))) (omega (arith, length-map-range_with_len (symbol_at word) 0 (symbol_count word))))
  | inr some ↦
      let n : more ≡ left = omega arith in
      ap (λ k. map (symbol_at word) (range_with_len 0 k)) n ∙ sym (take-map-range_with_len (symbol_at word) 0 (symbol_count word) left some)
]
