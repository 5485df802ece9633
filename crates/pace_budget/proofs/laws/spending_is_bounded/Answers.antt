use Rattle.std.proofs.Common.{arith}
use Rattle.std.proofs.lemmas.Int.{ints}
use Rattle.pace_budget.proofs.Spans.{count-within}
use Rattle.pace_budget.specs.Spans.{none_counted}
use Rattle.pace_budget.proofs.laws.spending_is_bounded.Goals as goal

pub returns : goal.returns
returns c = λ most now deeds high some opens. count-within most now none_counted deeds opens (omega (arith, ints)) (omega (arith, ints))
