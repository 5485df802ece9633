use Rattle.std.proofs.Common.{ℕ, ◌+◌, option_map, sym, ap, ◌∙◌}
use Rattle.probe_clusters.specs.Cluster.{is_ready}
use Rattle.probe_clusters.proofs.Passed.{position-over}
use Rattle.probe_clusters.proofs.probes.first_ready.Goals as goal

pub returns-in-Some : goal.returns-in-Some
returns-in-Some c =
    sym (position-over is_ready c.args.first c.args.clusters.now c.requires ∙ ap (option_map (λ (k : ℕ). c.args.first + k)) (sym c.first_ready_in.ensures.value ∙ c.in-Some.is))

pub returns-in-None : goal.returns-in-None
returns-in-None c =
    sym (position-over is_ready c.args.first c.args.clusters.now c.requires ∙ ap (option_map (λ (k : ℕ). c.args.first + k)) (sym c.first_ready_in.ensures.value ∙ c.in-None.is))
