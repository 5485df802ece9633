use Rattle.nack_rtx.proofs.Yields.{yields}
use Rattle.nack_rtx.proofs.laws.yields_what_it_names.Goals as goal

pub returns : goal.returns
returns c = λ s media a seq place. yields s media a seq place
