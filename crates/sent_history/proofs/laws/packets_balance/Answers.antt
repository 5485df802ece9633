use Rattle.sent_history.specs.Laws.{packets_balance}
use Rattle.sent_history.proofs.laws.packets_balance.Goals as goal

pub returns : goal.returns
returns c = λ events few. packets_balance events few
