use Rattle.call_trace.proofs.Merging.{ordered_legal}
use Rattle.call_trace.proofs.laws.lines_in_order_are_legal.Goals as goal

pub returns : goal.returns
returns c = λ lines few. ordered_legal lines few
