-- Powers in Q30 by halving the exponent.
use Rattle.std.specs.Prelude.{ℕ, zero, suc, ◌≡◌, ◌<◌, ◌-◌, ◌*◌, ◌/◌, ◌%◌, ◌==◌, if◌then◌else◌}
use Rattle.fixed_math.specs.declared.TheConstants.{ONE_Q30}

-- the product of two numbers in Q30, rounded down
abbrev pub product_q30 : ℕ → ℕ → ℕ
product_q30 a b = a * b / ONE_Q30

-- The rule of a power: 0 gives 1; an odd exponent gives the power before it times the factor, an even one the square of the power of its half.
pub record IsPowerByHalving (factor : ℕ) (power : ℕ → ℕ) : Type 0 where
  pub none : power 0 ≡ ONE_Q30
  pub odd : (n : ℕ) → n % 2 ≡ 1 → power n ≡ product_q30 (power (n - 1)) factor
  pub even : (n : ℕ) → 0 < n → n % 2 ≡ 0 → power n ≡ product_q30 (power (n / 2)) (power (n / 2))

-- the power by this rule, with so many products at most
unfoldable pub power_in : ℕ → ℕ → ℕ → ℕ
power_in zero factor n = ONE_Q30
power_in (suc products) factor zero = ONE_Q30
power_in (suc products) factor (suc n) =
    if suc n % 2 == 1 then product_q30 (power_in products factor (suc n - 1)) factor
    else product_q30 (power_in products factor (suc n / 2)) (power_in products factor (suc n / 2))

-- the n-th power, which takes no more than n products
abbrev pub power_q30 : ℕ → ℕ → ℕ
power_q30 factor n = power_in n factor n
