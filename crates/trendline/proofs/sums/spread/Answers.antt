use Rattle.std.proofs.Common.{pos, ◌*◌, arith}
use Rattle.std.specs.Int.{w128}
use Rattle.std.proofs.lemmas.Int.{fits_signed_from_abs}
use Rattle.trendline.specs.declared.TheConstants.{GREATEST_TIME}
use Rattle.trendline.proofs.Numbers.{times-fits, line}
use Rattle.trendline.proofs.sums.spread.Goals as goal

pub overflow_cast-result : goal.overflow_cast-result
overflow_cast-result c = fits_signed_from_abs w128 (pos 20) (omega arith)

pub overflow_mul-result : goal.overflow_mul-result
overflow_mul-result c = times-fits 20 (20 * (GREATEST_TIME * GREATEST_TIME)) c.args.sums.xx c.requires.xx (omega arith) (omega arith)

pub overflow_sub-result : goal.overflow_sub-result
overflow_sub-result c =
    (line 20 (20 * (GREATEST_TIME * GREATEST_TIME)) (20 * GREATEST_TIME) (20 * GREATEST_TIME) c.args.sums.xx c.args.sums.x c.args.sums.x c.product.result
    c.requires.xx c.requires.x c.requires.x (omega arith) (omega arith) (omega arith) (omega arith) c.product.ensures).fits

pub returns-clause-value : goal.returns-clause-value
returns-clause-value c =
    (line 20 (20 * (GREATEST_TIME * GREATEST_TIME)) (20 * GREATEST_TIME) (20 * GREATEST_TIME) c.args.sums.xx c.args.sums.x c.args.sums.x c.product.result
    c.requires.xx c.requires.x c.requires.x (omega arith) (omega arith) (omega arith) (omega arith) c.product.ensures).is

pub returns-clause-small : goal.returns-clause-small
returns-clause-small c =
    (line 20 (20 * (GREATEST_TIME * GREATEST_TIME)) (20 * GREATEST_TIME) (20 * GREATEST_TIME) c.args.sums.xx c.args.sums.x c.args.sums.x c.product.result
    c.requires.xx c.requires.x c.requires.x (omega arith) (omega arith) (omega arith) (omega arith) c.product.ensures).near
