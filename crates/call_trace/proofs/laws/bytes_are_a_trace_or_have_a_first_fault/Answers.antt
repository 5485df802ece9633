use Rattle.call_trace.proofs.Exactly.{trace_or_fault, trace_no_fault, one_fault, reads_trace, reads_fault}
use Rattle.call_trace.proofs.laws.bytes_are_a_trace_or_have_a_first_fault.Goals as goal

pub returns-clause-either : goal.returns-clause-either
returns-clause-either c = trace_or_fault

pub returns-clause-apart : goal.returns-clause-apart
returns-clause-apart c = trace_no_fault

pub returns-clause-one : goal.returns-clause-one
returns-clause-one c = one_fault

pub returns-clause-trace : goal.returns-clause-trace
returns-clause-trace c = reads_trace

pub returns-clause-fault : goal.returns-clause-fault
returns-clause-fault c = reads_fault
