use Rattle.send_laws.proofs.Summing.{IsIntegral}
use Rattle.send_laws.proofs.spans.integral_over.Given as goal

abbrev pub invariant-loop-k : goal.invariant-loop-k
invariant-loop-k l = IsIntegral l.budget l.journal.items l.i l.k l.integral l.before
