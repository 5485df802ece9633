use Rattle.reply_text.proofs.OwnGlances.{IsGoing}
use Rattle.reply_text.proofs.looking.own_glances.Given as goal

abbrev pub invariant-loop-line : goal.invariant-loop-line
invariant-loop-line l = IsGoing l.served.sender l.lines l.actor l.glances l.line-index l.standing l.rest
