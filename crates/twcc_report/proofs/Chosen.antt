-- The chunk that comes next says the symbols that it stands for.
use Rattle.std.proofs.Common.{◌≡◌, ◌≢◌, ℕ, zero, suc, ◌+◌, ◌-◌, ◌*◌, ◌/◌, ◌%◌, ◌<◌, ◌≤◌, ◌⊎◌, inl, inr, Bool, true, false, nat_lt, nat_le, ◌==◌, List, [], ◌∷◌, length, take, map, get_or, refl, sym, ap, ◌∙◌, arith, length-take, eq-eqb}
use Rattle.std.specs.List.{range_with_len, prefix_len, list_all, AllByRecursion}
use Rattle.std.proofs.lemmas.Bool.{cases_Bool, lt-ltb, le-ltb, le-leb, lt-leb, leb-true, eqb-true, ltb-true, ne_eqb}
use Rattle.std.proofs.lemmas.List.{get_or-take}
use Rattle.std.proofs.lemmas.List.Folds.{length-prefix_len}
use Rattle.std.proofs.lemmas.List.Sums.{prefix_len_passes, prefix_len-le-length}
use Rattle.twcc_report.specs.Chunks.{symbol_count, symbol_at, symbols_of}
use Rattle.twcc_report.specs.Canonical.{run_len, is_run, fits_one_bit, run_chunk, one_bit_chunk, two_bit_chunk, next_chunk}
use Rattle.twcc_report.proofs.Digits.{AreDigits, with_digits-front, with_digits-at, two_bits}

-- each is a symbol of a status
abbrev pub AreSymbols : List ℕ → Type 0
AreSymbols symbols = AllByRecursion (λ s. s < 3) symbols

pub symbol_below : (symbols : List ℕ) (k : ℕ) → AreSymbols symbols → get_or symbols k 0 < 3
symbol_below [] k all = omega arith
symbol_below (s ∷ symbols) zero all = all.0
symbol_below (s ∷ symbols) (suc k) all = symbol_below symbols k all.1

-- The chunk says the next symbols, seven of them at least or all that are left.
pub record IsNext (symbols : List ℕ) (word : ℕ) : Type 0 where
  pub fits : word < 65536
  pub some : 1 ≤ symbol_count word
  pub many : (7 ≤ symbol_count word) ⊎ (length symbols ≤ symbol_count word)
  pub says : take (length symbols) (symbols_of word) ≡ take (symbol_count word) symbols

listed : (f : ℕ → ℕ) (from n : ℕ) (symbols : List ℕ) → ((k : ℕ) → k < n → k < length symbols → f (from + k) ≡ get_or symbols k 0)
    → take (length symbols) (map f (range_with_len from n)) ≡ take n symbols
listed f from zero [] h = refl
listed f from zero (s ∷ symbols) h = refl
listed f from (suc n) [] h = refl
listed f from (suc n) (s ∷ symbols) h =
    let here : from + 0 ≡ from = omega arith in
    let later : (k : ℕ) → k < n → k < length symbols → f (from + 1 + k) ≡ get_or symbols k 0 =
    λ k lt has. let e : from + 1 + k ≡ from + suc k = omega arith in ap f e ∙ h (suc k) (omega arith) (omega arith) in
    ap (λ x. x ∷ take (length symbols) (map f (range_with_len (from + 1) n))) (ap f (sym here) ∙ h 0 (omega arith) (omega arith))
    ∙ ap (λ (xs : List ℕ). s ∷ xs) (listed f (from + 1) n symbols later)

says_by : (word n : ℕ) (symbols : List ℕ) → symbol_count word ≡ n → ((k : ℕ) → k < n → k < length symbols → symbol_at word k ≡ get_or symbols k 0)
    → take (length symbols) (symbols_of word) ≡ take (symbol_count word) symbols
unfolding symbols_of
says_by word n symbols e h =
    listed (symbol_at word) 0 (symbol_count word) symbols
    (λ k lt has. let from : 0 + k ≡ k = omega arith in ap (symbol_at word) from ∙ h k (omega (arith, e)) has)

-- ---- runs

pub run_len-bounds : (symbols : List ℕ) → (run_len symbols ≤ 8191) × (run_len symbols ≤ length symbols)
unfolding run_len
run_len-bounds symbols =
    let p : ℕ → Bool = λ s. s == get_or symbols 0 0 in
    let len = length-prefix_len p (take 8191 symbols) in
    let le : prefix_len p (take 8191 symbols) ≤ length (take 8191 symbols) = prefix_len-le-length p (take 8191 symbols) in
    (omega (arith, len, le, length-take 8191 symbols), omega (arith, len, le, length-take 8191 symbols))

first_passes : (p : ℕ → Bool) (xs : List ℕ) → 0 < length xs → p (get_or xs 0 0) ≡ true → 1 ≤ prefix_len p xs
first_passes p [] some h = absurd (omega arith)
first_passes p (x ∷ xs) some h = rw h (omega arith)

pub run_len-some : (symbols : List ℕ) → 0 < length symbols → 1 ≤ run_len symbols
unfolding run_len
run_len-some symbols some =
    let p : ℕ → Bool = λ s. s == get_or symbols 0 0 in
    let one : 1 ≤ prefix_len p (take 8191 symbols) =
    first_passes p (take 8191 symbols) (omega (arith, length-take 8191 symbols))
    (rw (get_or-take 8191 symbols 0 0 (omega arith)) (eq-eqb (get_or symbols 0 0) (get_or symbols 0 0) refl)) in
    omega (arith, length-prefix_len p (take 8191 symbols), one)

run_len-same : (symbols : List ℕ) (k : ℕ) → k < run_len symbols → get_or symbols k 0 ≡ get_or symbols 0 0
unfolding run_len
run_len-same symbols k lt =
    let p : ℕ → Bool = λ s. s == get_or symbols 0 0 in
    let len = length-prefix_len p (take 8191 symbols) in
    let bounds = run_len-bounds symbols in
    let inside : k < 8191 = omega (arith, bounds.0) in
    sym (get_or-take 8191 symbols k 0 inside) ∙ eqb-true (get_or (take 8191 symbols) k 0) (get_or symbols 0 0) (prefix_len_passes p (take 8191 symbols) k 0 (omega (arith, len)))

run_next : (symbols : List ℕ) → 0 < length symbols → AreSymbols symbols → is_run symbols ≡ true → IsNext symbols (run_chunk symbols)
run_next symbols some all run =
    let n : ℕ = run_len symbols in
    let s : ℕ = get_or symbols 0 0 in
    let bounds = run_len-bounds symbols in
    let one = run_len-some symbols some in
    let small : s < 3 = symbol_below symbols 0 all in
    let low : s * 8192 + n < 32768 = omega (arith, bounds.0) in
    let count : symbol_count (run_chunk symbols) ≡ n = rw (lt-ltb (s * 8192 + n) 32768 low) (omega (arith, bounds.0)) in
    let at : (k : ℕ) → k < n → k < length symbols → symbol_at (run_chunk symbols) k ≡ get_or symbols k 0 =
    λ k lt has. rw (lt-ltb (s * 8192 + n) 32768 low) (let div : (s * 8192 + n) / 8192 ≡ s = omega (arith, bounds.0) in div ∙ sym (run_len-same symbols k lt)) in
    let long : (7 ≤ n) ⊎ (length symbols ≤ n) = elim (cases_Bool (nat_le 7 n)) [
      | inl is ↦ inl (leb-true 7 n is)
      | inr not_long ↦ let ends : n ≡ length symbols = eqb-true n (length symbols) (rw not_long at run) in inr (omega (arith, ends))
    ] in
    record {
      fits = omega arith;
      some = omega (arith, count, one);
      many = elim long [ inl l ↦ inl (omega (arith, count, l)) | inr l ↦ inr (omega (arith, count, l)) ];
      says = says_by (run_chunk symbols) n symbols count at;
    }

-- ---- vectors

pub one_bit_digits : (n : ℕ) (symbols : List ℕ) → list_all (λ s. nat_lt s 2) (take n symbols) ≡ true → AreDigits 2 n symbols
one_bit_digits zero symbols h k lt = absurd (omega arith)
one_bit_digits (suc n) [] h k lt = omega arith
one_bit_digits (suc n) (s ∷ symbols) h zero lt = elim (cases_Bool (nat_lt s 2)) [
  | inl is ↦ ltb-true s 2 is
  | inr fails ↦ absurd (let k = rw fails at h in cc k)
]
one_bit_digits (suc n) (s ∷ symbols) h (suc k) lt = elim (cases_Bool (nat_lt s 2)) [
  | inl is ↦ one_bit_digits n symbols (rw is at h) k (omega arith)
  | inr fails ↦ absurd (let k = rw fails at h in cc k)
]

pub two_bit_digits : (n : ℕ) (symbols : List ℕ) → AreSymbols symbols → AreDigits 4 n symbols
two_bit_digits n symbols all k lt = omega (arith, symbol_below symbols k all)

one_bit_next : (symbols : List ℕ) → AreDigits 2 14 symbols → IsNext symbols (one_bit_chunk symbols)
one_bit_next symbols digits =
    let w : ℕ = one_bit_chunk symbols in
    let front : w / 16384 ≡ 2 = with_digits-front 2 2 14 symbols digits in
    let low : 32768 ≤ w = omega (arith, front) in
    let high : w < 49152 = omega (arith, front) in
    let count : symbol_count w ≡ 14 = rw (le-ltb w 32768 low, lt-ltb w 49152 high) refl in
    record {
      fits = omega arith;
      some = omega (arith, count);
      many = inl (omega (arith, count));
      says = says_by w 14 symbols count (λ k lt has. rw (le-ltb w 32768 low, lt-ltb w 49152 high) (with_digits-at 2 2 14 k symbols lt digits));
    }

two_bit_next : (symbols : List ℕ) → AreDigits 4 7 symbols → IsNext symbols (two_bit_chunk symbols)
two_bit_next symbols digits =
    let w : ℕ = two_bit_chunk symbols in
    let front : w / 16384 ≡ 3 = with_digits-front 4 3 7 symbols digits in
    let low : 49152 ≤ w = omega (arith, front) in
    let past : 32768 ≤ w = omega arith in
    let count : symbol_count w ≡ 7 = rw (le-ltb w 32768 past, le-ltb w 49152 low) refl in
    record {
      fits = omega (arith, front);
      some = omega (arith, count);
      many = inl (omega (arith, count));
      says = says_by w 7 symbols count
          (λ k lt has. rw (le-ltb w 32768 past, le-ltb w 49152 low) (ap (λ p. w / p % 4) (two_bits (6 - k)) ∙ with_digits-at 4 3 7 k symbols lt digits));
    }

pub chosen : (symbols : List ℕ) → 0 < length symbols → AreSymbols symbols → IsNext symbols (next_chunk symbols)
unfolding next_chunk
chosen symbols some all = elim (cases_Bool (is_run symbols)) [
  | inl run ↦ rw run (run_next symbols some all run)
  | inr no_run ↦ rw no_run (elim (cases_Bool (fits_one_bit symbols)) [
    | inl one ↦ rw one (one_bit_next symbols (one_bit_digits 14 symbols one))
    | inr two ↦ rw two (two_bit_next symbols (two_bit_digits 7 symbols all))
  ])
]

-- ---- which kind it is

pub is_run_where : (symbols : List ℕ) → (7 ≤ run_len symbols) ⊎ (run_len symbols ≡ length symbols) → next_chunk symbols ≡ run_chunk symbols
unfolding next_chunk
is_run_where symbols (inl long) = rw (le-leb 7 (run_len symbols) long) refl
is_run_where symbols (inr ends) = elim (cases_Bool (nat_le 7 (run_len symbols))) [
  | inl long ↦ rw long refl
  | inr short ↦ rw (short, eq-eqb (run_len symbols) (length symbols) ends) refl
]

no_run_where : (symbols : List ℕ) → run_len symbols < 7 → run_len symbols ≢ length symbols → is_run symbols ≡ false
no_run_where symbols short goes_on = rw (lt-leb 7 (run_len symbols) short, ne_eqb (run_len symbols) (length symbols) goes_on) refl

pub is_one_bit_where : (symbols : List ℕ) → run_len symbols < 7 → run_len symbols ≢ length symbols → fits_one_bit symbols ≡ true
    → next_chunk symbols ≡ one_bit_chunk symbols
unfolding next_chunk
is_one_bit_where symbols short goes_on one = rw (no_run_where symbols short goes_on, one) refl

pub is_two_bit_where : (symbols : List ℕ) → run_len symbols < 7 → run_len symbols ≢ length symbols → fits_one_bit symbols ≡ false
    → next_chunk symbols ≡ two_bit_chunk symbols
unfolding next_chunk
is_two_bit_where symbols short goes_on two = rw (no_run_where symbols short goes_on, two) refl
