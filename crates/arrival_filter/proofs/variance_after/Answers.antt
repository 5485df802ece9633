use Rattle.std.proofs.Common.{arith}
use Rattle.std.proofs.lemmas.Int.{ints}
use Rattle.arrival_filter.proofs.Numbers.{variance_fits}
use Rattle.arrival_filter.proofs.variance_after.Goals as goal

pub overflow_cast-result : goal.overflow_cast-result
overflow_cast-result c =
    let fits = variance_fits c.args.alpha c.args.variance c.unsigned_abs-size.result c.requires.alpha c.requires.greatest (omega (arith, ints)) in omega arith

pub returns-clause-greatest : goal.returns-clause-greatest
returns-clause-greatest c =
    let fits = variance_fits c.args.alpha c.args.variance c.unsigned_abs-size.result c.requires.alpha c.requires.greatest (omega (arith, ints)) in omega arith
