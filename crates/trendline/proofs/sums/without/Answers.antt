use Rattle.std.proofs.Common.{◌≡◌, ◌*ℤ◌, ◌*◌, arith}
use Rattle.std.specs.Int.{w64, w128}
use Rattle.trendline.specs.declared.TheConstants.{GREATEST_TIME}
use Rattle.trendline.specs.Ranges.{IsNear, most_delay}
use Rattle.trendline.proofs.Numbers.{difference-fits, product-is, near-product, near-same, taken-is}
use Rattle.trendline.proofs.sums.without.Goals as goal

pub overflow_sub-result : goal.overflow_sub-result
overflow_sub-result c =
    difference-fits w64 (21 * GREATEST_TIME) GREATEST_TIME c.args.sums.x c.args.point.x c.requires.sums.x c.requires.point.x (omega arith)

pub overflow_sub-result-2 : goal.overflow_sub-result-2
overflow_sub-result-2 c = difference-fits w64 (21 * most_delay) most_delay c.args.sums.y c.args.point.y c.requires.sums.y c.requires.point.y (omega arith)

pub overflow_sub-result-3 : goal.overflow_sub-result-3
overflow_sub-result-3 c =
    let is : c.product.result ≡ c.args.point.x *ℤ c.args.point.y =
    product-is GREATEST_TIME most_delay c.args.point.x c.args.point.y c.product.result c.requires.point.x c.requires.point.y (omega arith) (omega arith) c.product.ensures in
    let near : IsNear (GREATEST_TIME * most_delay) c.product.result =
    near-same (GREATEST_TIME * most_delay) c.product.result (c.args.point.x *ℤ c.args.point.y) is (near-product GREATEST_TIME most_delay c.args.point.x c.args.point.y c.requires.point.x c.requires.point.y) in
    difference-fits w128 (21 * (GREATEST_TIME * most_delay)) (GREATEST_TIME * most_delay) c.args.sums.xy c.product.result c.requires.sums.xy near (omega arith)

pub overflow_sub-result-4 : goal.overflow_sub-result-4
overflow_sub-result-4 c =
    let is : c.product-2.result ≡ c.args.point.x *ℤ c.args.point.x =
    product-is GREATEST_TIME GREATEST_TIME c.args.point.x c.args.point.x c.product-2.result c.requires.point.x c.requires.point.x (omega arith) (omega arith) c.product-2.ensures in
    let near : IsNear (GREATEST_TIME * GREATEST_TIME) c.product-2.result =
    near-same (GREATEST_TIME * GREATEST_TIME) c.product-2.result (c.args.point.x *ℤ c.args.point.x) is (near-product GREATEST_TIME GREATEST_TIME c.args.point.x c.args.point.x c.requires.point.x c.requires.point.x) in
    difference-fits w128 (21 * (GREATEST_TIME * GREATEST_TIME)) (GREATEST_TIME * GREATEST_TIME) c.args.sums.xx c.product-2.result c.requires.sums.xx near (omega arith)

pub returns : goal.returns
returns c =
    taken-is c.args.sums c.args.point c.product.result c.product-2.result c.requires.sums c.requires.point c.product.ensures c.product-2.ensures
