use Rattle.call_trace.proofs.Exactly.{line_or_bad, line_not_bad, one_reason}
use Rattle.call_trace.proofs.laws.a_line_is_an_action_or_has_a_first_bad_field.Goals as goal

pub returns-clause-either : goal.returns-clause-either
returns-clause-either c = line_or_bad

pub returns-clause-apart : goal.returns-clause-apart
returns-clause-apart c = line_not_bad

pub returns-clause-one : goal.returns-clause-one
returns-clause-one c = one_reason
