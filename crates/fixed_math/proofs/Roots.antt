-- The root by steps of one is the greatest number whose square is at most a.
use Rattle.std.proofs.Common.{ℕ, zero, suc, ◌≡◌, ◌+◌, ◌*◌, ◌≤◌, ◌<◌, arith, nat_le, if◌then◌else◌, inl, inr}
use Rattle.std.proofs.lemmas.Nat.{mul-le}
use Rattle.std.proofs.lemmas.Bool.{cases_lt}
use Rattle.std.proofs.lemmas.Bool.Decides.{nat_tests}
use Rattle.fixed_math.specs.Root.{root}

-- the square of r is at most a, and the next square is above it
record Between (a r : ℕ) : Type 0 where
  fits : r * r ≤ a
  next : a < (r + 1) * (r + 1)

next_root : (a r : ℕ) → Between a r → Between (suc a) (if nat_le ((r + 1) * (r + 1)) (suc a) then r + 1 else r)
next_root a r h = record { fits = grind (arith, nat_tests); next = grind (arith, nat_tests) }

root_between : (a : ℕ) → Between a (root a)
unfolding root
root_between zero = record { fits = omega arith; next = omega arith }
root_between (suc a) = next_root a (root a) (root_between a)

not_above : (r s : ℕ) → r * r < (s + 1) * (s + 1) → s < r → ⊥
not_above r s h over = omega (arith, mul-le (s + 1) (s + 1) r r (omega arith) (omega arith))

below_next : (r s : ℕ) → r * r < (s + 1) * (s + 1) → r ≤ s
below_next r s h = elim (cases_lt s r) [ inl over ↦ absurd (not_above r s h over) | inr here ↦ here ]

-- what lies between its square and the next is the root
pub root_is : (a r : ℕ) → r * r ≤ a → a < (r + 1) * (r + 1) → r ≡ root a
root_is a r fits next =
    let b : Between a (root a) = root_between a in
    let up : r ≤ root a = below_next r (root a) (omega arith) in
    let down : root a ≤ r = below_next (root a) r (omega arith) in
    omega arith

-- and it is the greatest
pub root_greatest : (a r s : ℕ) → a < (r + 1) * (r + 1) → s * s ≤ a → s ≤ r
root_greatest a r s next fits = below_next s r (omega arith)
