-- The power by halving obeys its rule.
use Rattle.std.proofs.Common.{ℕ, zero, suc, ◌≡◌, ◌-◌, ◌/◌, ◌%◌, ◌≤◌, ◌<◌, arith, refl, ◌∙◌, sym}
use Rattle.fixed_math.specs.Power.{power_in, power_q30, product_q30, IsPowerByHalving}

none_at : (products factor : ℕ) → power_in products factor 0 ≡ power_in 0 factor 0
unfolding power_in
none_at zero factor = refl
none_at (suc products) factor = refl

-- so many products as the exponent are enough
enough : (bound products factor n : ℕ) → products ≤ bound → n ≤ products → power_in products factor n ≡ power_in n factor n
unfolding power_in
enough bound products factor zero h k = none_at products factor
enough zero zero factor (suc n) h k = absurd (omega arith)
enough zero (suc products) factor (suc n) h k = absurd (omega arith)
enough (suc bound) zero factor (suc n) h k = absurd (omega arith)
enough (suc bound) (suc products) factor (suc n) h k =
    let before : power_in products factor (suc n - 1) ≡ power_in n factor (suc n - 1) =
    enough bound products factor (suc n - 1) (omega arith) (omega arith) ∙ sym (enough bound n factor (suc n - 1) (omega arith) (omega arith)) in
    let half : power_in products factor (suc n / 2) ≡ power_in n factor (suc n / 2) =
    enough bound products factor (suc n / 2) (omega arith) (omega arith) ∙ sym (enough bound n factor (suc n / 2) (omega arith) (omega arith)) in
    rw (before, half) refl

odd : (factor n : ℕ) → n % 2 ≡ 1 → power_q30 factor n ≡ product_q30 (power_q30 factor (n - 1)) factor
unfolding power_in
odd factor zero is_odd = absurd (omega arith)
odd factor (suc n) is_odd = rw (is_odd, enough n n factor (suc n - 1) (omega arith) (omega arith)) refl

even : (factor n : ℕ) → 0 < n → n % 2 ≡ 0 → power_q30 factor n ≡ product_q30 (power_q30 factor (n / 2)) (power_q30 factor (n / 2))
unfolding power_in
even factor zero some is_even = absurd (omega arith)
even factor (suc n) some is_even = rw (is_even, enough n n factor (suc n / 2) (omega arith) (omega arith)) refl

pub by_halving : (factor : ℕ) → IsPowerByHalving factor (power_q30 factor)
unfolding power_in
by_halving factor = record { none = refl; odd = odd factor; even = even factor }
