use Rattle.overuse.proofs.Steps.{times_stay_low}
use Rattle.overuse.proofs.time_grows_slowly.Goals as goal

pub returns : goal.returns
returns c = times_stay_low
