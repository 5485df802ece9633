use Rattle.arrival_filter.proofs.Samples.{errors_stay_low}
use Rattle.arrival_filter.proofs.error_grows_slowly.Goals as goal

pub returns : goal.returns
returns c = errors_stay_low
