use Rattle.std.proofs.Common.{sym, ap}
use Rattle.gcc_units.specs.Listed.{Listed}
use Rattle.reply_text.specs.declared.seen.Seen.{Seen}
use Rattle.run_top.proofs.Working.{looked_on}
use Rattle.run_top.proofs.workers.look.Goals as goal

pub returns-in_default-clause-worked : goal.returns-in_default-clause-worked
returns-in_default-clause-worked c lines works =
    let w = c.args.worker.now in
    let g : Seen = record { actor = w.actor; calls = c.glance-glance.result.calls; target = c.glance-glance.result.target } in
    let e = c.glance-glance.ensures in
    looked_on lines w.seat c.glance-glance.new.seat w.glances.items c.push.new.self.items g w.stop e.seat.1 e.own e.mine e.seen (sym c.requires.actor) e.calls e.target
    (ap (λ (l : Listed Seen). l.items) c.in_default.ensures.ok) c.requires.running works
