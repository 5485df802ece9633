use Rattle.reply_text.proofs.AllGlances.{AreFound}
use Rattle.reply_text.proofs.looking.are_glances.Given as goal

abbrev pub invariant-loop-actor : goal.invariant-loop-actor
invariant-loop-actor l = AreFound l.served.sender l.lines l.actors l.glances l.actor l.rest
