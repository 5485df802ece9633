use Rattle.sent_history.specs.Crediting.{account}
use Rattle.sent_history.specs.Laws.{statuses_counted, credits_few, missing_few}
use Rattle.sent_history.proofs.laws.statuses_are_judged_once.Goals as goal

pub returns-clause-sum : goal.returns-clause-sum
returns-clause-sum c = λ events report. statuses_counted (account events) report

pub returns-clause-credits : goal.returns-clause-credits
returns-clause-credits c = λ events report. credits_few (account events) report

pub returns-clause-missing : goal.returns-clause-missing
returns-clause-missing c = λ events report. missing_few (account events) report
