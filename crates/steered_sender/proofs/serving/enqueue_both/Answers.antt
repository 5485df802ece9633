use Rattle.send_core.specs.declared.call.Call.TheVariants as call
use Rattle.steered_sender.proofs.Hearing.{enqueue-quiet}
use Rattle.steered_sender.proofs.Pushing.{quiet-stays}
use Rattle.steered_sender.proofs.serving.enqueue_both.Goals as goal

pub returns-in-Ok-clause-steering : goal.returns-in-Ok-clause-steering
returns-in-Ok-clause-steering c = λ h caller stands steers.
    quiet-stays h caller (call.Enqueue c.args.at c.args.class c.args.wire) c.in-Ok.reply c.args.steering.now
    (enqueue-quiet h c.args.at c.args.class c.args.wire c.in-Ok.reply (c.in-Ok.ensures.reply h stands)) steers c.requires.nothing
