-- Quotients that are rounded down, towards minus infinity.
use Rattle.std.specs.Prelude.{ℤ, pos, ◌*ℤ◌, ◌+ℤ◌, ◌≤ℤ◌, ◌<ℤ◌}
use Rattle.std.specs.Int.{int_div_euclid}
use Rattle.fixed_math.specs.declared.TheConstants.{ONE_Q16}

-- q is z over n, rounded down: the greatest number whose n-fold is at most z
pub record IsFloor (z n q : ℤ) : Type 0 where
  pub fits : (q *ℤ n) ≤ℤ z
  pub greatest : z <ℤ ((q +ℤ pos 1) *ℤ n)

-- z over n, which is above 0, rounded down
abbrev pub floor_div : ℤ → ℤ → ℤ
floor_div z n = int_div_euclid z n

abbrev pub product_q16 : ℤ → ℤ → ℤ
product_q16 a b = floor_div (a *ℤ b) (pos ONE_Q16)

abbrev pub quotient_q16 : ℤ → ℤ → ℤ
quotient_q16 a b = floor_div (pos ONE_Q16 *ℤ a) b
