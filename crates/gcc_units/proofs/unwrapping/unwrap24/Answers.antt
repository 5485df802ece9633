use Rattle.std.proofs.Common.{◌≡◌, ◌+ℤ◌, ◌-ℤ◌, arith, to_z, of_z, w64}
use Rattle.std.proofs.lemmas.Int.{ints}
use Rattle.gcc_units.proofs.Nearest.{value_is, nearest_is}
use Rattle.gcc_units.proofs.unwrapping.unwrap24.Goals as goal

pub returns-clause-value : goal.returns-clause-value
returns-clause-value c =
    let sum : to_z w64 (of_z w64 (to_z w64 (of_z w64 c.args.last) +ℤ to_z w64 (of_z w64 c.signed24.result))) ≡ (c.args.last +ℤ c.signed24.result) =
    omega (arith, ints, c.signed24.ensures.low, c.signed24.ensures.high) in
    let gap : to_z w64 (of_z w64 (to_z w64 (of_z w64 c.from.result) -ℤ to_z w64 (of_z w64 c.args.last))) ≡ (c.args.low -ℤ c.args.last) =
    omega (arith, ints, c.from.ensures) in
    rw sum (value_is c.args.last c.args.low _ c.signed24.result gap c.signed24.ensures.value)

pub returns-clause-nearest : goal.returns-clause-nearest
returns-clause-nearest c =
    let sum : to_z w64 (of_z w64 (to_z w64 (of_z w64 c.args.last) +ℤ to_z w64 (of_z w64 c.signed24.result))) ≡ (c.args.last +ℤ c.signed24.result) =
    omega (arith, ints, c.signed24.ensures.low, c.signed24.ensures.high) in
    let gap : to_z w64 (of_z w64 (to_z w64 (of_z w64 c.from.result) -ℤ to_z w64 (of_z w64 c.args.last))) ≡ (c.args.low -ℤ c.args.last) =
    omega (arith, ints, c.from.ensures) in
    nearest_is c.args.last c.args.low _ c.signed24.result _ gap c.signed24.ensures.value c.signed24.ensures.low c.signed24.ensures.high sum
