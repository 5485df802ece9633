use Rattle.send_core.specs.Reports.{events}
use Rattle.send_core.proofs.Checking.{fault-is}
use Rattle.send_core.proofs.parts.Parts.fault_of.Goals as goal

pub returns : goal.returns
returns c = λ h s.
    fault-is h c.args.self.now c.args.change.now c.has_any-fixed.result c.sent.result c.waiting-waiting.result c.in_ok-fault.fault s c.has_any-fixed.ensures
    (c.sent.ensures (events h) s.packets) c.waiting-waiting.ensures.value c.in_ok-fault.ensures
