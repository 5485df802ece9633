use Rattle.send_laws.proofs.Finding.{HasSends}
use Rattle.send_laws.proofs.probes.sends_for.Given as goal

abbrev pub invariant-loop-k : goal.invariant-loop-k
invariant-loop-k l = HasSends l.id l.journal.items l.k l.sends
