use Rattle.call_trace.proofs.Merging.{ordered_merges}
use Rattle.call_trace.proofs.laws.lines_in_order_merge.Goals as goal

pub returns : goal.returns
returns c = λ lines. ordered_merges lines
