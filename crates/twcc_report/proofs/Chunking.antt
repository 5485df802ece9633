-- Chunks and their symbols.
use Rattle.std.proofs.Common.{◌≡◌, ℕ, zero, suc, ◌+◌, ◌-◌, ◌*◌, ◌/◌, ◌%◌, ◌<◌, ◌≤◌, inl, inr, List, [], ◌∷◌, ◌++◌, length, take, map, get_or, refl, ap, sym, ◌∙◌, arith, append_assoc, length-append}
use Rattle.std.specs.List.{flat_map, range_with_len, AllByRecursion}
use Rattle.std.proofs.lemmas.Bool.{cases_lt, lt-ltb, le-ltb}
use Rattle.twcc_report.specs.Chunks.{symbol_count, symbol_at, symbols_of, chunk_bytes, AreChunks, BeginsWith, all_symbols, behind_chunks}

-- each byte is one
abbrev pub IsBytes : List ℕ → Type 0
IsBytes bytes = (i : ℕ) → get_or bytes i 0 < 256

pub IsBytes-rest : (b : ℕ) (bytes : List ℕ) → IsBytes (b ∷ bytes) → IsBytes bytes
IsBytes-rest b bytes h i = h (suc i)

-- what is taken of two lists
pub take_both : (n : ℕ) (xs ys : List ℕ) → take n (xs ++ ys) ≡ take n xs ++ take (n - length xs) ys
take_both zero [] ys = refl
take_both zero (x ∷ xs) ys = let e : 0 - suc (length xs) ≡ 0 = omega arith in rw e refl
take_both (suc n) [] ys = let e : suc n - 0 ≡ suc n = omega arith in rw e refl
take_both (suc n) (x ∷ xs) ys =
    let e : suc n - suc (length xs) ≡ n - length xs = omega arith in
    rw e (ap (λ (zs : List ℕ). x ∷ zs) (take_both n xs ys))

-- ---- a symbol has two bits

symbol_small : (word k : ℕ) → symbol_at word k < 4
symbol_small word k = elim (cases_lt word 32768) [
  | inl run ↦ rw (lt-ltb word 32768 run) (omega arith)
  | inr vector ↦ rw (le-ltb word 32768 vector) (elim (cases_lt word 49152) [
    | inl one ↦ rw (lt-ltb word 49152 one) (omega arith)
    | inr two ↦ rw (le-ltb word 49152 two) (omega arith)
  ])
]

all_mapped : (word : ℕ) (ks : List ℕ) → AllByRecursion (λ s. s < 4) (map (symbol_at word) ks)
all_mapped word [] = tt
all_mapped word (k ∷ ks) = (symbol_small word k, all_mapped word ks)

pub all_append : (P : ℕ → Type 0) (xs ys : List ℕ) → AllByRecursion P xs → AllByRecursion P ys → AllByRecursion P (xs ++ ys)
all_append P [] ys h k = k
all_append P (x ∷ xs) ys h k = (h.0, all_append P xs ys h.1 k)

pub all_take : (P : ℕ → Type 0) (n : ℕ) (xs : List ℕ) → AllByRecursion P xs → AllByRecursion P (take n xs)
all_take P zero xs h = tt
all_take P (suc n) [] h = tt
all_take P (suc n) (x ∷ xs) h = (h.0, all_take P n xs h.1)

symbols_small : (word : ℕ) → AllByRecursion (λ s. s < 4) (symbols_of word)
unfolding symbols_of
symbols_small word = all_mapped word (range_with_len 0 (symbol_count word))

pub chunks_small : (chunks : List ℕ) → AllByRecursion (λ s. s < 4) (flat_map symbols_of chunks)
chunks_small [] = tt
chunks_small (w ∷ ws) = all_append (λ s. s < 4) (symbols_of w) (flat_map symbols_of ws) (symbols_small w) (chunks_small ws)

-- ---- chunks that are spelled are read

word_again : (w : ℕ) → w < 65536 → w / 256 % 256 * 256 + w % 256 ≡ w
word_again w fits = omega arith

pub symbols_again : (chunks rest : List ℕ) → AllByRecursion (λ w. w < 65536) chunks
    → all_symbols (chunk_bytes chunks ++ rest) ≡ flat_map symbols_of chunks ++ all_symbols rest
symbols_again [] rest fit = refl
symbols_again (w ∷ ws) rest fit =
    ap (λ v. symbols_of v ++ all_symbols (chunk_bytes ws ++ rest)) (word_again w fit.0)
    ∙ ap (λ (xs : List ℕ). symbols_of w ++ xs) (symbols_again ws rest fit.1)
    ∙ sym (append_assoc (symbols_of w) (flat_map symbols_of ws) (all_symbols rest))

pub behind_again : (count : ℕ) (chunks rest : List ℕ) → AreChunks count chunks → behind_chunks count (chunk_bytes chunks ++ rest) ≡ rest
unfolding behind_chunks
behind_again zero [] rest c = refl
behind_again (suc n) [] rest c = absurd (omega (arith, c.enough))
behind_again zero (w ∷ ws) rest c = absurd (omega (arith, c.no_more 0 (omega arith)))
behind_again (suc n) (w ∷ ws) rest c =
    ap (λ v. behind_chunks (suc n - length (symbols_of v)) (chunk_bytes ws ++ rest)) (word_again w c.fit.0)
    ∙ behind_again (suc n - length (symbols_of w)) ws rest (record {
      fit = c.fit.1;
      enough = omega (arith, c.enough, length-append (symbols_of w) (flat_map symbols_of ws));
      no_more = λ k lt. omega (arith, c.no_more (suc k) (omega arith), length-append (symbols_of w) (flat_map symbols_of (take k ws)));
    })

-- ---- chunks that are read are spelled

no_more_behind : (n w : ℕ) (ws : List ℕ) → ((k : ℕ) → k < length ws → length (flat_map symbols_of (take k ws)) < suc n - length (symbols_of w))
    → (k : ℕ) → k < length (w ∷ ws) → length (flat_map symbols_of (take k (w ∷ ws))) < suc n
no_more_behind n w ws h zero lt = omega arith
no_more_behind n w ws h (suc k) lt = omega (arith, h k (omega arith), length-append (symbols_of w) (flat_map symbols_of (take k ws)))

pub chunks_take : (count : ℕ) (body : List ℕ) → IsBytes body → count ≤ length (all_symbols body)
    → (chunks : List ℕ) × BeginsWith count body chunks (behind_chunks count body)
unfolding behind_chunks
chunks_take zero body fits enough =
    ([], record { parts = refl; are_chunks = record { fit = tt; enough = omega arith; no_more = λ k lt. absurd (omega arith) } })
chunks_take (suc n) [] fits enough = absurd (omega arith)
chunks_take (suc n) (b ∷ []) fits enough = absurd (omega arith)
chunks_take (suc n) (high ∷ low ∷ rest) fits enough =
    let more = chunks_take (suc n - length (symbols_of (high * 256 + low))) rest (IsBytes-rest low rest (IsBytes-rest high (low ∷ rest) fits))
    (omega (arith, enough, length-append (symbols_of (high * 256 + low)) (all_symbols rest))) in
    let eh : high ≡ (high * 256 + low) / 256 % 256 = omega (arith, fits 0, fits 1) in
    let el : low ≡ (high * 256 + low) % 256 = omega (arith, fits 0, fits 1) in (
      (high * 256 + low) ∷ more.0,
      record {
        parts = ap (λ h. h ∷ low ∷ rest) eh ∙ ap (λ l. (high * 256 + low) / 256 % 256 ∷ l ∷ rest) el
            ∙ ap (λ (xs : List ℕ). (high * 256 + low) / 256 % 256 ∷ (high * 256 + low) % 256 ∷ xs) more.1.parts;
        are_chunks = record {
          fit = (omega (arith, fits 0, fits 1), more.1.are_chunks.fit);
          enough = omega (arith, more.1.are_chunks.enough, length-append (symbols_of (high * 256 + low)) (flat_map symbols_of more.0));
          no_more = no_more_behind n (high * 256 + low) more.0 more.1.are_chunks.no_more;
        };
      },
    )
