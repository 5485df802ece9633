use Rattle.send_laws.proofs.Summing.{IsCounted}
use Rattle.send_laws.proofs.spans.counted_over.Given as goal

abbrev pub invariant-loop-k : goal.invariant-loop-k
invariant-loop-k l = IsCounted l.budget l.journal.items l.i l.k l.counted
