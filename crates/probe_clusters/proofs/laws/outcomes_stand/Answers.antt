use Rattle.probe_clusters.proofs.Reports.{outcomes_stand}
use Rattle.probe_clusters.proofs.laws.outcomes_stand.Goals as goal

pub returns : goal.returns
returns c = outcomes_stand
