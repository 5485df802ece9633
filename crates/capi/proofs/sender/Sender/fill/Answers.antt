use Rattle.std.proofs.Common.{sym, ◌∙◌}
use Rattle.capi.proofs.Kept.{stands-popped}
use Rattle.capi.proofs.sender.Sender.fill.Goals as goal

pub returns-clause-stands : goal.returns-clause-stands
returns-clause-stands c = stands-popped c.serve.result c.args.self.now.steered c.serve.new.self.steered c.args.at c.args.self.now.kept (sym c.has_kept.ensures ∙ c.if-has_kept.false) c.serve.ensures.serves
