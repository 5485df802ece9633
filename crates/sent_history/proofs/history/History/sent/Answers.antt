use Rattle.std.proofs.Common.{length, ap, ◌∙◌}
use Rattle.sent_history.specs.Kept.{Kept}
use Rattle.sent_history.specs.Pushes.{account_packets}
use Rattle.sent_history.proofs.history.History.sent.Goals as goal

pub returns : goal.returns
returns c = λ events stands. ap (λ (h : Kept). h.sent) c.self.view_is ∙ stands.sent ∙ ap length (account_packets events)
