use Rattle.nack_rtx.proofs.Repeats.{all_few}
use Rattle.nack_rtx.proofs.laws.none_beyond_its_repeats.Goals as goal

pub returns : goal.returns
returns c = λ s events. all_few s events
