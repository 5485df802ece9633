-- Numbers by their digits.
use Rattle.std.proofs.Common.{◌≡◌, ℕ, zero, suc, ◌+◌, ◌-◌, ◌*◌, ◌/◌, ◌%◌, ◌^◌, ◌<◌, ◌≤◌, List, get_or, refl, sym, ap, ◌∙◌, add-one, pow-add, arith}
use Rattle.std.proofs.lemmas.Nat.{div-mul-add, mod-mul-add}
use Rattle.std.proofs.Math.Nat.{div-div-eq-div-mul, pow-suc, pow-succ', pow-zero, one-le-pow, one-mul, mul_assoc, add-mul, mul-le-mul_left, mul-le-mul_right}
use Rattle.twcc_report.specs.Canonical.{with_digits}

-- the first n are digits of the base
abbrev pub AreDigits : ℕ → ℕ → List ℕ → Type 0
AreDigits base n symbols = (k : ℕ) → k < n → get_or symbols k 0 < base

fewer : (base n : ℕ) (symbols : List ℕ) → AreDigits base (suc n) symbols → AreDigits base n symbols
fewer base n symbols d k lt = d k (omega arith)

-- a shift by one digit more
shifted : (base n a d : ℕ) → d < base → (a * base + d) / base ^ suc n ≡ a / base ^ n
shifted base n a d lt =
    ap (λ p. (a * base + d) / p) (pow-succ' base n) ∙ sym (div-div-eq-div-mul (a * base + d) base (base ^ n)) ∙ ap (λ q. q / base ^ n) (div-mul-add a base d lt)

-- the bits that the digits stand behind
pub with_digits-front : (base bits n : ℕ) (symbols : List ℕ) → AreDigits base n symbols → with_digits base bits n symbols / base ^ n ≡ bits
unfolding with_digits
with_digits-front base bits zero symbols d = let one : bits / 1 ≡ bits = omega arith in ap (λ p. bits / p) (pow-zero base) ∙ one
with_digits-front base bits (suc n) symbols d =
    shifted base n (with_digits base bits n symbols) (get_or symbols n 0) (d n (omega arith)) ∙ with_digits-front base bits n symbols (fewer base n symbols d)

-- digit k, with m digits behind it
digit_before : (base bits m k n : ℕ) (symbols : List ℕ) → n ≡ k + suc m → AreDigits base n symbols
    → with_digits base bits n symbols / base ^ m % base ≡ get_or symbols k 0
unfolding with_digits
digit_before base bits m k zero symbols e d = absurd (omega (arith, e))
digit_before base bits zero k (suc n) symbols e d =
    let w : ℕ = with_digits base bits n symbols * base + get_or symbols n 0 in
    let one : w / 1 ≡ w = omega arith in
    let at : n ≡ k = omega (arith, e) in
    ap (λ p. w / p % base) (pow-zero base) ∙ ap (λ q. q % base) one ∙ mod-mul-add (with_digits base bits n symbols) base (get_or symbols n 0) (d n (omega arith))
    ∙ ap (λ i. get_or symbols i 0) at
digit_before base bits (suc m) k (suc n) symbols e d =
    ap (λ q. q % base) (shifted base m (with_digits base bits n symbols) (get_or symbols n 0) (d n (omega arith)))
    ∙ digit_before base bits m k n symbols (omega (arith, e)) (fewer base n symbols d)

pub with_digits-at : (base bits n k : ℕ) (symbols : List ℕ) → k < n → AreDigits base n symbols
    → with_digits base bits n symbols / base ^ (n - 1 - k) % base ≡ get_or symbols k 0
with_digits-at base bits n k symbols lt d = digit_before base bits (n - 1 - k) k n symbols (omega arith) d

-- two bits are a digit of base four
pub two_bits : (m : ℕ) → 2 ^ (2 * m) ≡ 4 ^ m
two_bits zero = refl
two_bits (suc m) =
    let e : 2 * suc m ≡ suc (suc (2 * m)) = omega arith in
    ap (λ k. 2 ^ k) e ∙ pow-suc 2 (suc (2 * m)) ∙ ap (λ p. p * 2) (pow-suc 2 (2 * m))
    ∙ (let four : 2 ^ (2 * m) * 2 * 2 ≡ 2 ^ (2 * m) * 4 = omega arith in four) ∙ ap (λ p. p * 4) (two_bits m) ∙ sym (pow-suc 4 m)

-- ---- the loop that adds digits

-- one digit more, and the digits still fit
pub next_digit : (bits base word k symbol : ℕ) → word + 1 ≤ (bits + 1) * base ^ k → symbol < base
    → word * base + symbol + 1 ≤ (bits + 1) * base ^ (k + 1)
next_digit bits base word k symbol le digit =
    let room : (word + 1) * base ≤ (bits + 1) * base ^ k * base = mul-le-mul_right base le in
    let wide : (word + 1) * base ≡ word * base + base = add-mul word 1 base ∙ ap (λ p. word * base + p) (one-mul base) in
    let more : (bits + 1) * base ^ k * base ≡ (bits + 1) * base ^ (k + 1) = mul_assoc (bits + 1) (base ^ k) base ∙ ap (λ p. (bits + 1) * p) (sym (pow-suc base k) ∙ ap (λ i. base ^ i) (sym (add-one k))) in
    omega (arith, room, wide, more)

-- fewer digits are no more
pub fewer_digits : (bits base j n : ℕ) → 1 ≤ base → (bits + 1) * base ^ n ≤ (bits + 1) * base ^ (n + j)
fewer_digits bits base j n some =
    let more : (bits + 1) * base ^ n * 1 ≤ (bits + 1) * base ^ n * base ^ j = mul-le-mul_left ((bits + 1) * base ^ n) (one-le-pow j base (omega arith)) in
    let same : (bits + 1) * base ^ n * base ^ j ≡ (bits + 1) * base ^ (n + j) = mul_assoc (bits + 1) (base ^ n) (base ^ j) ∙ ap (λ p. (bits + 1) * p) (sym (pow-add base n j)) in
    omega (arith, more, same)

-- a word with one digit more fits, where all the digits do
pub digit_fits : (bits base word k n symbol most : ℕ) → word + 1 ≤ (bits + 1) * base ^ k → symbol < base → k < n → (bits + 1) * base ^ n ≤ most
    → word * base + symbol + 1 ≤ most
digit_fits bits base word k n symbol most le digit lt fits =
    let j : ℕ = n - (k + 1) in
    let at : k + 1 + j ≡ n = omega arith in
    omega (arith, next_digit bits base word k symbol le digit, fewer_digits bits base j (k + 1) (omega arith), ap (λ i. (bits + 1) * base ^ i) at, fits)

pub with_digits-more : (base bits k : ℕ) (symbols : List ℕ) → with_digits base bits (k + 1) symbols ≡ with_digits base bits k symbols * base + get_or symbols k 0
unfolding with_digits
with_digits-more base bits k symbols = rw (add-one k) refl

pub with_digits-none : (base bits : ℕ) (symbols : List ℕ) → with_digits base bits 0 symbols ≡ bits
unfolding with_digits
with_digits-none base bits symbols = refl

pub no_digits : (bits base : ℕ) → bits + 1 ≤ (bits + 1) * base ^ 0
no_digits bits base = let e : (bits + 1) * base ^ 0 ≡ (bits + 1) * 1 = ap (λ p. (bits + 1) * p) (pow-zero base) in omega (arith, e)
