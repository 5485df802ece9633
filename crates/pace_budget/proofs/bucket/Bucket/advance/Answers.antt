use Rattle.std.proofs.Common.{◌≤◌, ◌*◌, arith}
use Rattle.std.proofs.Math.Nat.{mul-le-mul}
use Rattle.std.proofs.lemmas.Int.{ints, clamps}
use Rattle.gcc_units.specs.declared.limits.TheConstants.{GREATEST_RATE}
use Rattle.pace_budget.specs.declared.bucket.TheConstants.{GREATEST_WINDOW}
use Rattle.pace_budget.specs.Level.{Advance}
use Rattle.pace_budget.proofs.Steps.{StandsFor-step}
use Rattle.pace_budget.proofs.bucket.Bucket.advance.Goals as goal

pub invariant_of-self : goal.invariant_of-self
invariant_of-self c =
    let most : c.args.rate * c.args.window ≤ GREATEST_RATE * GREATEST_WINDOW = mul-le-mul c.requires.rate c.requires.window in
    record { high = omega (arith, ints, clamps); low = omega (arith, ints, clamps) }

pub returns-clause-level : goal.returns-clause-level
returns-clause-level c =
    let most : c.args.rate * c.args.window ≤ GREATEST_RATE * GREATEST_WINDOW = mul-le-mul c.requires.rate c.requires.window in
    omega (arith, ints, clamps)

pub returns-clause-stands : goal.returns-clause-stands
returns-clause-stands c =
    λ ds s. StandsFor-step c.args.self.now ds (Advance c.args.rate c.args.dt c.args.window) s _ (returns-clause-level c)
