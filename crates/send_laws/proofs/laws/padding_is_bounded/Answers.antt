use Rattle.send_laws.proofs.Padding.{padding-bounded}
use Rattle.send_laws.proofs.laws.padding_is_bounded.Goals as goal

pub returns : goal.returns
returns c = padding-bounded
