use Rattle.sent_history.specs.Laws.{credited_once, credited_sent, credited_few}
use Rattle.sent_history.proofs.laws.no_number_is_credited_twice.Goals as goal

pub returns-clause-once : goal.returns-clause-once
returns-clause-once c = λ events few. credited_once events few

pub returns-clause-sent : goal.returns-clause-sent
returns-clause-sent c = λ events. credited_sent events

pub returns-clause-few : goal.returns-clause-few
returns-clause-few c = λ events few. credited_few events few
