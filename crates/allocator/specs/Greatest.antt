-- The greatest number that passes a test.
use Rattle.std.specs.Prelude.{◌≡◌, ℕ, zero, suc, ◌≤◌, Bool, true, Option, None, Some, if◌then◌else◌}

-- n is the greatest number up to the bound that passes
pub record IsGreatest (test : ℕ → Bool) (bound n : ℕ) : Type 0 where
  pub within : n ≤ bound
  pub passes : test n ≡ true
  pub greatest : (m : ℕ) → m ≤ bound → test m ≡ true → m ≤ n

-- that number, where one passes
unfoldable pub greatest : (ℕ → Bool) → ℕ → Option ℕ
greatest test zero = if test zero then Some zero else None
greatest test (suc bound) = if test (suc bound) then Some (suc bound) else greatest test bound
