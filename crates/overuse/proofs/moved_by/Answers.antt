use Rattle.std.proofs.Common.{◌≡◌, ◌*ℤ◌, ◌+ℤ◌, ◌≤◌, ◌+◌, ◌*◌, ap, ◌∙◌, arith, unsigned_abs, to_z, of_z}
use Rattle.std.specs.Int.{w64, int_max, int_min}
use Rattle.std.proofs.lemmas.Int.{ints, to_z-of_z}
use Rattle.fixed_math.specs.Floor.{floor_div}
use Rattle.overuse.specs.declared.TheConstants.{GAIN_UNIT, LEAST_THRESHOLD, GREATEST_THRESHOLD}
use Rattle.overuse.specs.Detector.{weight}
use Rattle.overuse.proofs.Numbers.{quotient_is, move_fits, sum_is, sum_fits}
use Rattle.overuse.proofs.moved_by.Goals as goal

pub overflow_add-threshold : goal.overflow_add-threshold
overflow_add-threshold c =
    sum_fits c.args.threshold c.div_euclid-by.result c.requires.least c.requires.greatest
    (move_fits c.weight_of.result c.args.excess c.div_euclid-by.result c.weight_of.ensures.least c.weight_of.ensures.greatest c.requires.low c.requires.high
    (quotient_is c.weight_of.result c.args.excess c.div_euclid-by.result c.weight_of.ensures.least c.weight_of.ensures.greatest c.requires.low c.requires.high
    c.div_euclid-by.ensures))

weight_is : (c : goal.After-clamp) → c.weight_of.result ≡ weight c.args.arrival_gap c.args.excess
weight_is c = grind (arith, to_z-of_z, c.weight_of.ensures.value)

by_is : (c : goal.After-clamp) → c.div_euclid-by.result ≡ floor_div (c.weight_of.result *ℤ c.args.excess) GAIN_UNIT
by_is c =
    quotient_is c.weight_of.result c.args.excess c.div_euclid-by.result c.weight_of.ensures.least c.weight_of.ensures.greatest c.requires.low c.requires.high
    c.div_euclid-by.ensures

small : (c : goal.After-clamp) → unsigned_abs c.div_euclid-by.result ≤ 400000 * 39321600 + 1
small c =
    move_fits c.weight_of.result c.args.excess c.div_euclid-by.result c.weight_of.ensures.least c.weight_of.ensures.greatest c.requires.low c.requires.high (by_is c)

whole : (c : goal.After-clamp) → to_z w64 (of_z w64 c.clamp.result) ≡ c.clamp.result
whole c = omega (arith, ints)

pub returns-clause-value : goal.returns-clause-value
returns-clause-value c =
    whole c
    ∙ c.clamp.ensures.value
    ∙ ap (λ z. int_max LEAST_THRESHOLD (int_min z GREATEST_THRESHOLD)) (sum_is c.args.threshold c.div_euclid-by.result c.requires.least c.requires.greatest (small c))
    ∙ ap (λ z. int_max LEAST_THRESHOLD (int_min (c.args.threshold +ℤ z) GREATEST_THRESHOLD)) (by_is c)
    ∙ ap (λ z. int_max LEAST_THRESHOLD (int_min (c.args.threshold +ℤ floor_div (z *ℤ c.args.excess) GAIN_UNIT) GREATEST_THRESHOLD)) (weight_is c)
