use Rattle.probe_clusters.proofs.Together.{together}
use Rattle.probe_clusters.proofs.laws.credits_together.Goals as goal

pub returns : goal.returns
returns c = together
