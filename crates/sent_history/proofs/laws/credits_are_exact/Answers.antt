use Rattle.sent_history.specs.Crediting.{account}
use Rattle.sent_history.specs.Laws.{credits_exact, credits_outstanding, credits_differ, judged_of_packets}
use Rattle.sent_history.proofs.laws.credits_are_exact.Goals as goal

pub returns-clause-exact : goal.returns-clause-exact
returns-clause-exact c = λ events report n. credits_exact (account events) report n

pub returns-clause-outstanding : goal.returns-clause-outstanding
returns-clause-outstanding c = λ events report. credits_outstanding (account events) report

pub returns-clause-once : goal.returns-clause-once
returns-clause-once c = λ events report few. credits_differ (account events) report few

pub returns-clause-packets : goal.returns-clause-packets
returns-clause-packets c = λ events report. judged_of_packets events report
