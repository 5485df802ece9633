use Rattle.std.proofs.Common.{rules}
use Rattle.arrival_filter.proofs.Numbers.{least_short}
use Rattle.arrival_filter.proofs.least_of.Goals as goal

pub returns-clause-value : goal.returns-clause-value
returns-clause-value c = search rules

pub returns-clause-short : goal.returns-clause-short
returns-clause-short c = rw (returns-clause-value c) (least_short c.args.intervals.now.items)
