use Rattle.rtp_wire.proofs.ByElements.{one_kind}
use Rattle.rtp_wire.proofs.laws.extensions_are_of_one_kind.Goals as goal

pub returns : goal.returns
returns c = one_kind
