use Rattle.nack_rtx.proofs.Numbers.{first-has, first-once, first-push}
use Rattle.nack_rtx.proofs.laws.lost_are_the_named.Goals as goal

pub returns-clause-same : goal.returns-clause-same
returns-clause-same c = λ named n. first-has named n

pub returns-clause-once : goal.returns-clause-once
returns-clause-once c = λ named n. first-once named n

pub returns-clause-order : goal.returns-clause-order
returns-clause-order c = λ named n. first-push named n
