use Rattle.probe_clusters.proofs.Later.{taken_once}
use Rattle.probe_clusters.proofs.laws.results_are_taken_once.Goals as goal

pub returns : goal.returns
returns c = taken_once
