use Rattle.probe_clusters.proofs.Later.{waits_once}
use Rattle.probe_clusters.proofs.laws.clusters_wait_once.Goals as goal

pub returns : goal.returns
returns c = waits_once
