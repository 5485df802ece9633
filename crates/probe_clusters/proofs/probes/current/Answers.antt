use Rattle.std.proofs.Common.{ℕ, ◌+◌, option_map, sym, ap, ◌∙◌}
use Rattle.probe_clusters.specs.Cluster.{waits}
use Rattle.probe_clusters.proofs.Passed.{position-over}
use Rattle.probe_clusters.proofs.probes.current.Goals as goal

pub returns-in-Some : goal.returns-in-Some
returns-in-Some c =
    sym (position-over waits c.args.over c.args.clusters.now c.requires ∙ ap (option_map (λ (k : ℕ). c.args.over + k)) (sym c.first_in.ensures.value ∙ c.in-Some.is))

pub returns-in-None : goal.returns-in-None
returns-in-None c =
    sym (position-over waits c.args.over c.args.clusters.now c.requires ∙ ap (option_map (λ (k : ℕ). c.args.over + k)) (sym c.first_in.ensures.value ∙ c.in-None.is))
