use Rattle.std.proofs.Common.{sym}
use Rattle.shared_sender.proofs.Answering.{answers_grow, refused}
use Rattle.shared_sender.proofs.held.HeldObject.apply.Goals as goal

pub returns-clause-entry : goal.returns-clause-entry
returns-clause-entry c =
    rw (sym c.self.view_is) (answers_grow c.self.inside.sender c.apply.new.self c.args.caller c.args.call c.apply.result c.apply.ensures.wires c.apply.ensures.grows)

pub returns-clause-refused : goal.returns-clause-refused
returns-clause-refused c = rw (sym c.self.view_is) (refused c.self.inside.sender c.args.call c.apply.result c.journal-legal.ensures.legal.short c.apply.ensures.full)
