use Rattle.steered_sender.proofs.Pushing.{with-room}
use Rattle.steered_sender.proofs.serving.configure_both.Goals as goal

pub returns-in-Ok-clause-steering : goal.returns-in-Ok-clause-steering
returns-in-Ok-clause-steering c = λ h caller stands steers own.
    c.note_change.ensures.stands h caller c.args.at
    (with-room h c.args.steering.now c.make_room.new.clusters c.make_room.new.planned steers c.make_room.ensures.items c.make_room.ensures.rates) (c.in-Ok.ensures.reply h stands) own
