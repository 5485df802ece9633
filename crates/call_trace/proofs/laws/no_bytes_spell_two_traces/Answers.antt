use Rattle.call_trace.proofs.Again.{trace_one}
use Rattle.call_trace.proofs.laws.no_bytes_spell_two_traces.Goals as goal

pub returns : goal.returns
returns c = λ bytes a b is-a is-b. trace_one bytes a b is-a is-b
