use Rattle.std.proofs.Common.{◌∙◌, arith}
use Rattle.run_top.proofs.OwnLines.{own_line, other_line}
use Rattle.run_top.proofs.Working.{works_passed}
use Rattle.run_top.proofs.workers.visit.Goals as goal

pub returns-then-line-worker-clause-own : goal.returns-then-line-worker-clause-own
returns-then-line-worker-clause-own g c =
    let none = other_line c.args.worker.now.actor c.args.line.now c.if-line-worker.true in
    omega (arith, none)

pub returns-then-line-worker-clause-worked : goal.returns-then-line-worker-clause-worked
returns-then-line-worker-clause-worked g c lines works =
    let w = c.args.worker.now in
    works_passed lines c.args.line.now w.seat.number w.seat.seen w.seat.mine w.glances.items w.stop (λ p. c.if-line-worker.true (p ∙ c.requires.actor)) works

pub returns-clause-own : goal.returns-clause-own
returns-clause-own g c =
    let one = own_line c.args.worker.now.actor c.args.line.now c.if-line-worker.false in
    omega (arith, one)
