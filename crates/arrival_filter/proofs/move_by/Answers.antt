use Rattle.std.proofs.Common.{pos, ◌*ℤ◌, arith}
use Rattle.std.proofs.lemmas.Int.{ints, clamps, to_z-of_z, to_z_pos}
use Rattle.fixed_math.specs.declared.TheConstants.{ONE_Q16}
use Rattle.fixed_math.specs.Floor.{IsFloor}
use Rattle.arrival_filter.proofs.Numbers.{part_between}
use Rattle.arrival_filter.proofs.move_by.Goals as goal

floor : (c : goal.After-mul_q16) → IsFloor (c.args.residual *ℤ pos c.args.gain) (pos ONE_Q16) c.mul_q16.result
floor c = search (arith, ints, to_z-of_z, to_z_pos, c.mul_q16.ensures.floor)

pub returns-clause-low : goal.returns-clause-low
returns-clause-low c =
    let part = part_between c.args.residual c.mul_q16.result c.args.gain c.requires.gain (floor c) in omega (arith, ints, clamps)

pub returns-clause-high : goal.returns-clause-high
returns-clause-high c =
    let part = part_between c.args.residual c.mul_q16.result c.args.gain c.requires.gain (floor c) in omega (arith, ints, clamps)
