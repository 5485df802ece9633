use Rattle.std.proofs.Common.{arith, sym, ap, subst, ◌∙◌}
use Rattle.send_core.specs.Reply.{IsLegal, board}
use Rattle.shared_sender.proofs.Served.{journal_of-answers}
use Rattle.shared_sender.proofs.Answering.{length-answers, answers_have_wires}
use Rattle.shared_sender.proofs.held.HeldObject.board.Goals as goal

pub returns-clause-board : goal.returns-clause-board
returns-clause-board c = rw (sym c.self.view_is) (c.board.ensures.board ∙ ap board (sym (journal_of-answers c.self.inside.sender)))

pub returns-clause-legal : goal.returns-clause-legal
returns-clause-legal c =
    rw (sym c.self.view_is) (subst IsLegal (sym (journal_of-answers c.self.inside.sender)) c.journal-legal.ensures.legal, answers_have_wires c.self.inside.sender)

pub returns-clause-few : goal.returns-clause-few
returns-clause-few c = rw (sym c.self.view_is) (omega (arith, length-answers c.self.inside.sender, c.board.ensures.short))

pub returns-clause-length : goal.returns-clause-length
returns-clause-length c =
    rw (sym c.self.view_is) (omega (arith, length-answers c.self.inside.sender, c.board.ensures.short, c.board.ensures.board))
