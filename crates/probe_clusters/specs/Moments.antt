-- The first moment at which a test passes.
use Rattle.std.specs.Prelude.{◌≡◌, ℕ, ◌<◌, ◌≤◌, Bool, true, false, Option, Some, None, IfSome}
use Rattle.gcc_units.specs.declared.limits.TheConstants.{GREATEST_MOMENT}

-- before this moment; up to the greatest one, where there is none
abbrev pub IsBefore : Option ℕ → ℕ → Type 0
IsBefore None t = t ≤ GREATEST_MOMENT
IsBefore (Some m) t = t < m

-- the first moment from one on, up to the greatest, at which the test passes, where there is one
pub record IsFirstFrom (from : ℕ) (test : ℕ → Bool) (o : Option ℕ) : Type 0 where
  pub from_on : IfSome o (λ m. from ≤ m)
  pub in_time : IfSome o (λ m. m ≤ GREATEST_MOMENT)
  pub passes : IfSome o (λ m. test m ≡ true)
  pub none_before : (t : ℕ) → from ≤ t → IsBefore o t → test t ≡ false
