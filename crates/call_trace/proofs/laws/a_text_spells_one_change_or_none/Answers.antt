use Rattle.call_trace.proofs.ChangeExact.{change_or_reason, change_one, no_change_none, no_change_one}
use Rattle.call_trace.proofs.laws.a_text_spells_one_change_or_none.Goals as goal

pub returns-clause-either : goal.returns-clause-either
returns-clause-either c = λ text. change_or_reason text

pub returns-clause-apart : goal.returns-clause-apart
returns-clause-apart c = λ text change reason spelled none. no_change_none text reason change none spelled

pub returns-clause-one_change : goal.returns-clause-one_change
returns-clause-one_change c = λ text a b one other. change_one text a b one other

pub returns-clause-one_reason : goal.returns-clause-one_reason
returns-clause-one_reason c = λ text a b one other. no_change_one text a b one other
