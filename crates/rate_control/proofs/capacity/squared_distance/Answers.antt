use Rattle.std.proofs.Common.{◌≤◌, arith}
use Rattle.std.proofs.Math.Nat.{mul-le-mul}
use Rattle.rate_control.specs.declared.state.TheConstants.{GREATEST_KILOBITS}
use Rattle.rate_control.proofs.capacity.squared_distance.Goals as goal

pub returns-clause-bound : goal.returns-clause-bound
returns-clause-bound c = let near : c.abs_diff-distance.result ≤ GREATEST_KILOBITS = omega arith in mul-le-mul near near
