use Rattle.call_trace.proofs.Exactly.{front_or_fault, front_no_fault, one_front_fault, reads_front, reads_front_fault}
use Rattle.call_trace.proofs.laws.bytes_begin_with_a_trace_or_have_a_first_fault.Goals as goal

pub returns-clause-either : goal.returns-clause-either
returns-clause-either c = front_or_fault

pub returns-clause-apart : goal.returns-clause-apart
returns-clause-apart c = front_no_fault

pub returns-clause-one : goal.returns-clause-one
returns-clause-one c = one_front_fault

pub returns-clause-trace : goal.returns-clause-trace
returns-clause-trace c = reads_front

pub returns-clause-fault : goal.returns-clause-fault
returns-clause-fault c = reads_front_fault
