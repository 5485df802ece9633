-- A count of faults that rose stays risen.
use Rattle.std.specs.Prelude.{ℕ, ◌-◌, ◌≤◌}
use Rattle.std.proofs.Common.{arith}
use Rattle.run_io.specs.Faults.{Rose}

-- a count that rose and does not fall afterwards rose
pub Rose-then : (a b c : ℕ) → Rose a b → b ≤ c → Rose a c
Rose-then a b c rose later = omega arith

-- a count that did not fall, and rose afterwards, rose
pub then-Rose : (a b c : ℕ) → a ≤ b → Rose b c → Rose a c
then-Rose a b c later rose = omega arith
