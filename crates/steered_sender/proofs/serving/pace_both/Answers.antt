use Rattle.steered_sender.proofs.serving.pace_both.Goals as goal

pub returns-in-Ok-clause-steering : goal.returns-in-Ok-clause-steering
returns-in-Ok-clause-steering c = λ h caller stands steers. c.note_pace.ensures.steering h caller c.args.at steers (c.in-Ok.ensures.reply h stands)
