use Rattle.shared_sender.proofs.Answering.{answered_by}
use Rattle.shared_sender.proofs.shared.Shared.call.Goals as goal

pub returns-clause-answered : goal.returns-clause-answered
returns-clause-answered g c =
    answered_by c.args.seat.now c.call.new.seat c.args.call c.call.result c.call.ensures.legal.0 c.call.ensures.legal.1 c.call.ensures.added
