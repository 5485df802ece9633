use Rattle.std.proofs.Common.{◌≡◌, ℕ, ℤ, pos, negsuc, ◌-ℤ◌, ◌*◌, min, refl, ◌∙◌, arith}
use Rattle.std.proofs.lemmas.Int.{ints, clamps}
use Rattle.std.specs.Int.{int_min, int_max}
use Rattle.pace_budget.specs.Level.{Soft, soft_amount, whole}
use Rattle.pace_budget.proofs.Steps.{StandsFor-step}
use Rattle.pace_budget.proofs.bucket.Bucket.spend_soft.Goals as goal

-- the lesser of the size and of what stands above the floor comes off
soft-is : (now floor above : ℤ) (n : ℕ) → above ≡ now -ℤ floor
    → int_max (now -ℤ pos n) (int_min now floor) ≡ now -ℤ pos (min n (whole above))
soft-is now floor (pos k) n is = omega (arith, ints, clamps)
soft-is now floor (negsuc k) n is = omega (arith, ints, clamps)

pub invariant_of-self : goal.invariant_of-self
invariant_of-self c = record { high = omega (arith, ints, clamps); low = omega (arith, ints, clamps) }

pub returns-clause-level : goal.returns-clause-level
returns-clause-level c = omega (arith, ints, clamps)

pub returns-clause-amount : goal.returns-clause-amount
returns-clause-amount c =
    returns-clause-level c ∙ soft-is c.args.self.now c.args.floor (c.args.self.now -ℤ c.args.floor) (8000000 * c.args.size) refl

pub returns-clause-stands : goal.returns-clause-stands
returns-clause-stands c =
    λ ds s. StandsFor-step c.args.self.now ds (Soft (soft_amount c.args.self.now c.args.size c.args.floor)) s _ (returns-clause-amount c)
