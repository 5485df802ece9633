use Rattle.probe_clusters.proofs.Reports.{credits_stand}
use Rattle.probe_clusters.proofs.laws.credits_stand.Goals as goal

pub returns : goal.returns
returns c = credits_stand
