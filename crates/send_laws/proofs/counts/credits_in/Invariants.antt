use Rattle.send_laws.proofs.CreditsWalked.{IsWalked}
use Rattle.send_laws.proofs.counts.credits_in.Given as goal

abbrev pub invariant-loop-k : goal.invariant-loop-k
invariant-loop-k l = IsWalked l.journal.items l.first l.k l.credits.all l.credits.kept
