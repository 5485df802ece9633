use Rattle.run_top.proofs.Working.{answered_on}
use Rattle.run_top.proofs.workers.ask.Goals as goal

pub returns-in_default-call-clause-worked : goal.returns-in_default-call-clause-worked
returns-in_default-call-clause-worked g c lines works =
    let w = c.args.worker.now in
    let e = c.call.ensures in
    answered_on lines w.seat c.call.new.seat w.glances.items w.stop c.in-Ok.call c.args.call.now c.in_default-call.field-0 e.seat.1 e.own e.seen c.in-Ok.ensures
    c.in_default-call.ensures.answered c.requires.running works
