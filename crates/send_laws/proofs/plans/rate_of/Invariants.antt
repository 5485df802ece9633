use Rattle.send_laws.proofs.Finding.{HasPlans}
use Rattle.send_laws.proofs.plans.rate_of.Given as goal

abbrev pub invariant-loop-k : goal.invariant-loop-k
invariant-loop-k l = HasPlans l.id l.journal.items l.k l.planned
