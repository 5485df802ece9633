use Rattle.std.proofs.Common.{List, subst}
use Rattle.send_core.specs.declared.call.Entry.{Entry}
use Rattle.live_sender.specs.Live as live
use Rattle.steered_sender.specs.declared.steering.TheConstants.{CONTROL_CALLER}
use Rattle.steered_sender.specs.Steps.{Steers}
use Rattle.steered_sender.proofs.Asked.{asked-is, control-is}
use Rattle.steered_sender.proofs.serving.serve_one.Goals as goal

pub returns-clause-sender : goal.returns-clause-sender
returns-clause-sender c = λ h s.
    subst (λ (k : List Entry). live.StandsFor c.configure_both.new.sender k)
    (asked-is h c.args.wanted c.args.steering.now.wanted c.moment-moment.result c.change_for-change.result _ c.requires.wanted (c.moment-moment.ensures h s) c.change_for-change.ensures (c.in-Ok.ensures.reply h s))
    (c.in-Ok.ensures.sender h CONTROL_CALLER s)

pub returns-clause-steering : goal.returns-clause-steering
returns-clause-steering c = λ h s steers.
    subst (λ (k : List Entry). Steers c.configure_both.new.steering k)
    (asked-is h c.args.wanted c.args.steering.now.wanted c.moment-moment.result c.change_for-change.result _ c.requires.wanted (c.moment-moment.ensures h s) c.change_for-change.ensures (c.in-Ok.ensures.reply h s))
    (c.in-Ok.ensures.steering h CONTROL_CALLER s steers control-is)
