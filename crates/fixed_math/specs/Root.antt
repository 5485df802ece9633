-- The square root of a whole number, rounded down.
use Rattle.std.specs.Prelude.{ℕ, zero, suc, ◌+◌, ◌*◌, ◌≤◌, nat_le, if◌then◌else◌}

-- r is the greatest number whose square is at most a
pub record IsRoot (a r : ℕ) : Type 0 where
  pub fits : r * r ≤ a
  pub greatest : (s : ℕ) → s * s ≤ a → s ≤ r

-- that number: from one number to the next it stays, or rises by one where the next square is reached
unfoldable pub root : ℕ → ℕ
root zero = 0
root (suc a) = if nat_le ((root a + 1) * (root a + 1)) (suc a) then root a + 1 else root a
