-- Pairs and their bytes.
use Rattle.std.proofs.Common.{◌≡◌, ℕ, suc, ◌+◌, ◌-◌, ◌*◌, ◌/◌, ◌%◌, ◌<◌, ◌≤◌, List, [], ◌∷◌, ◌++◌, length, get_or, refl, ap, ◌∙◌, arith}
use Rattle.std.specs.List.{flat_map, AllByRecursion}
use Rattle.nack_rtx.specs.Naming.{pairs_in}
use Rattle.nack_rtx.specs.Spelling.{pair_bytes, PairFits}

-- each byte is one
abbrev pub IsBytes : List ℕ → Type 0
IsBytes bytes = (i : ℕ) → get_or bytes i 0 < 256

word_again : (w : ℕ) → w < 65536 → w / 256 % 256 * 256 + w % 256 ≡ w
word_again w fits = omega arith

pub pairs_again : (pairs : List (ℕ × ℕ)) → AllByRecursion PairFits pairs → pairs_in (flat_map pair_bytes pairs) ≡ pairs
pairs_again [] fit = refl
pairs_again (p ∷ ps) fit =
    ap (λ a. (a, p.1 / 256 % 256 * 256 + p.1 % 256) ∷ pairs_in (flat_map pair_bytes ps)) (word_again p.0 fit.0.0)
    ∙ ap (λ b. (p.0, b) ∷ pairs_in (flat_map pair_bytes ps)) (word_again p.1 fit.0.1)
    ∙ ap (λ (xs : List (ℕ × ℕ)). p ∷ xs) (pairs_again ps fit.1)

pub pairs_len : (pairs : List (ℕ × ℕ)) → length (flat_map pair_bytes pairs) ≡ 4 * length pairs
pairs_len [] = refl
pairs_len (p ∷ ps) = let more = pairs_len ps in omega (arith, more)

-- the bytes of four cells
four : (a b c d : ℕ) (rest : List ℕ) → a < 256 → b < 256 → c < 256 → d < 256
    → pair_bytes (a * 256 + b, c * 256 + d) ++ rest ≡ a ∷ b ∷ c ∷ d ∷ rest
four a b c d rest ha hb hc hd =
    let e1 : (a * 256 + b) / 256 % 256 ≡ a = omega arith in
    let e2 : (a * 256 + b) % 256 ≡ b = omega arith in
    let e3 : (c * 256 + d) / 256 % 256 ≡ c = omega arith in
    let e4 : (c * 256 + d) % 256 ≡ d = omega arith in
    rw (e1, e2, e3, e4) refl

rest_bytes : (a b c d : ℕ) (xs : List ℕ) → IsBytes (a ∷ b ∷ c ∷ d ∷ xs) → IsBytes xs
rest_bytes a b c d xs fits i = fits (suc (suc (suc (suc i))))

pub bytes_again : (n : ℕ) (xs : List ℕ) → IsBytes xs → length xs ≡ 4 * n → flat_map pair_bytes (pairs_in xs) ≡ xs
bytes_again n [] fits e = refl
bytes_again n (a ∷ []) fits e = absurd (omega (arith, e))
bytes_again n (a ∷ b ∷ []) fits e = absurd (omega (arith, e))
bytes_again n (a ∷ b ∷ c ∷ []) fits e = absurd (omega (arith, e))
bytes_again n (a ∷ b ∷ c ∷ d ∷ xs) fits e =
    four a b c d (flat_map pair_bytes (pairs_in xs)) (fits 0) (fits 1) (fits 2) (fits 3)
    ∙ ap (λ (ys : List ℕ). a ∷ b ∷ c ∷ d ∷ ys) (bytes_again (n - 1) xs (rest_bytes a b c d xs fits) (omega (arith, e)))

pub pairs_fit : (xs : List ℕ) → IsBytes xs → AllByRecursion PairFits (pairs_in xs)
pairs_fit [] fits = tt
pairs_fit (a ∷ []) fits = tt
pairs_fit (a ∷ b ∷ []) fits = tt
pairs_fit (a ∷ b ∷ c ∷ []) fits = tt
pairs_fit (a ∷ b ∷ c ∷ d ∷ xs) fits =
    ((omega (arith, fits 0, fits 1), omega (arith, fits 2, fits 3)), pairs_fit xs (rest_bytes a b c d xs fits))

pub pairs_some : (xs : List ℕ) → 4 ≤ length xs → 1 ≤ length (pairs_in xs)
pairs_some [] le = absurd (omega (arith, le))
pairs_some (a ∷ []) le = absurd (omega (arith, le))
pairs_some (a ∷ b ∷ []) le = absurd (omega (arith, le))
pairs_some (a ∷ b ∷ c ∷ []) le = absurd (omega (arith, le))
pairs_some (a ∷ b ∷ c ∷ d ∷ xs) le = omega arith
