-- Rates and the bounds that they are kept in.
use Rattle.std.specs.Prelude.{ℕ, ◌≤◌, max, min}
use Rattle.gcc_units.specs.declared.shared_types.Bounds.{Bounds}
use Rattle.gcc_units.specs.declared.limits.TheConstants.{LEAST_RATE, GREATEST_RATE}

-- a rate that an estimate may have
pub record IsRate (rate : ℕ) : Type 0 where
  pub least : LEAST_RATE ≤ rate
  pub greatest : rate ≤ GREATEST_RATE

-- bounds that an estimate may be given
pub record IsBounds (bounds : Bounds) : Type 0 where
  pub least : LEAST_RATE ≤ bounds.min
  pub order : bounds.min ≤ bounds.max
  pub greatest : bounds.max ≤ GREATEST_RATE

-- not below the least, not above the greatest
pub record IsInBounds (bounds : Bounds) (rate : ℕ) : Type 0 where
  pub least : bounds.min ≤ rate
  pub greatest : rate ≤ bounds.max

-- a rate, put in bounds
abbrev pub bounded : Bounds → ℕ → ℕ
bounded bounds rate = max bounds.min (min bounds.max rate)
