use Rattle.std.proofs.Common.{refl}
use Rattle.capi.proofs.Hearing.{heard-none}
use Rattle.capi.proofs.sender.Sender.hear_parts.Goals as goal

pub loop-part-init : goal.loop-part-init
loop-part-init c = (heard-none c.args.self.now.steered c.args.at c.args.self.now.findings c.requires.none, refl)
