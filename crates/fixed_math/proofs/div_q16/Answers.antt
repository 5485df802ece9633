use Rattle.std.proofs.Common.{◌*ℤ◌, pos, FitsSigned, arith, rules}
use Rattle.std.specs.Int.{w128}
use Rattle.std.proofs.lemmas.Int.{ints, to_z-of_z}
use Rattle.fixed_math.proofs.Floors.{floor_is}
use Rattle.fixed_math.proofs.div_q16.Goals as goal

pub returns-clause-value : goal.returns-clause-value
returns-clause-value c =
    let f : FitsSigned w128 (pos 65536 *ℤ c.args.a) = search rules in search (arith, ints, to_z-of_z)

pub returns-clause-floor : goal.returns-clause-floor
returns-clause-floor c = rw (returns-clause-value c) (floor_is _ _ c.requires.above)
