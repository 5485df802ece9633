use Rattle.call_trace.proofs.MadeLines.{made-length}
use Rattle.call_trace.proofs.laws.made_traces_have_all_calls.Goals as goal

pub returns : goal.returns
returns c = λ seed calls actors. made-length seed calls actors
