use Rattle.std.proofs.Common.{◌≡◌, ◌-ℤ◌, ◌∙◌, arith, to_z, of_z, unsigned_abs, int_lt, false}
use Rattle.std.specs.Int.{w64, w128}
use Rattle.std.proofs.lemmas.Int.{ints}
use Rattle.overuse.specs.declared.TheConstants.{GREATEST_EXCESS}
use Rattle.overuse.specs.Detector.{moved, excess}
use Rattle.overuse.proofs.Numbers.{not_far, excess_is, excess_whole, adapted_is}
use Rattle.overuse.proofs.adapted.Goals as goal

threshold_is : (c : goal.After-moved_by) → to_z w64 (of_z w64 c.args.threshold) ≡ c.args.threshold
threshold_is c = omega (arith, ints)

mean_is : (c : goal.After-moved_by) → to_z w64 (of_z w64 c.args.m) ≡ c.args.m
mean_is c = omega (arith, ints)

size_is : (c : goal.After-moved_by) → c.unsigned_abs.result ≡ unsigned_abs c.args.m
size_is c = rw (mean_is c) at c.unsigned_abs.ensures.value

is_excess : (c : goal.After-moved_by)
    → to_z w128 (of_z w128 (to_z w128 c.unsigned_abs.result -ℤ to_z w128 (of_z w128 c.args.threshold))) ≡ excess c.args.threshold c.args.m
is_excess c = excess_is c.args.threshold c.args.m c.unsigned_abs.result c.ranges.threshold (omega arith) (size_is c)

near : (c : goal.After-moved_by) → int_lt GREATEST_EXCESS (excess c.args.threshold c.args.m) ≡ false
near c = rw (threshold_is c, is_excess c) at c.if-excess.false

whole : (c : goal.After-moved_by) → to_z w64 (of_z w64 (excess c.args.threshold c.args.m)) ≡ excess c.args.threshold c.args.m
whole c = excess_whole c.args.threshold c.args.m c.requires.least c.requires.greatest (not_far _ (near c))

gap_is : (c : goal.After-moved_by) → to_z w64 (of_z w64 c.args.arrival_gap) ≡ c.args.arrival_gap
gap_is c = omega (arith, ints)

is_moved : (c : goal.After-moved_by) → c.moved_by.result ≡ moved c.args.threshold (excess c.args.threshold c.args.m) c.args.arrival_gap
is_moved c = rw (threshold_is c, is_excess c, whole c, gap_is c) at c.moved_by.ensures.value

result_is : (c : goal.After-moved_by) → to_z w64 (of_z w64 c.moved_by.result) ≡ c.moved_by.result
result_is c = omega (arith, ints)

pub returns-clause-value : goal.returns-clause-value
returns-clause-value c = result_is c ∙ adapted_is c.args.threshold c.args.m c.args.arrival_gap c.moved_by.result (near c) (is_moved c)
