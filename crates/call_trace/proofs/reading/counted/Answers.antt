use Rattle.gcc_units.specs.declared.limits.TheConstants.{MOST_LINES}
use Rattle.call_trace.specs.Plain.{plain}
use Rattle.call_trace.proofs.Fronts.{counts}
use Rattle.call_trace.proofs.reading.counted.Goals as goal

pub returns-in-Ok-clause-exact : goal.returns-in-Ok-clause-exact
returns-in-Ok-clause-exact c = counts MOST_LINES c.args.bytes.now c.in-Ok.behind.now (plain c.in-Ok.trace) c.in-Ok.ensures.read c.in-Ok.ensures.rest
