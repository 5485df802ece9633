use Rattle.std.proofs.Common.{arith}
use Rattle.gcc_units.specs.declared.limits.TheConstants.{MOST_LINES}
use Rattle.call_trace.specs.Plain.{plain}
use Rattle.call_trace.proofs.Fronts.{whole_trace, bytes_behind}
use Rattle.call_trace.proofs.reading.all.Goals as goal

pub returns-in-Ok-default-empty-clause-exact : goal.returns-in-Ok-default-empty-clause-exact
returns-in-Ok-default-empty-clause-exact c =
    let e = c.in-Ok-default-empty in
    whole_trace MOST_LINES c.args.bytes.now e.field-0-1.now (plain e.trace) e.ensures.read e.ensures.rest (omega (arith, e.len_below))

pub returns-in-Ok-clause-exact : goal.returns-in-Ok-clause-exact
returns-in-Ok-clause-exact c =
    let e = c.in-Ok in
    rw (c.at_line.ensures, c.len.ensures) (bytes_behind MOST_LINES c.args.bytes.now e.field-0-1.now (plain e.trace) e.ensures.read e.ensures.rest (omega (arith, e.len_at_least)))
