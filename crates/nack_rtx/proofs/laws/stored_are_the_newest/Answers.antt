use Rattle.nack_rtx.proofs.Yields.{newest}
use Rattle.nack_rtx.proofs.laws.stored_are_the_newest.Goals as goal

pub returns : goal.returns
returns c = λ packets seq place. newest packets seq place
