use Rattle.std.proofs.Common.{◌≡◌, ◌+◌, List, [], ◌∷◌, ◌++◌, sym, subst, rules, arith}
use Rattle.probe_clusters.specs.declared.cluster.Cluster.{Cluster}
use Rattle.probe_clusters.specs.Cluster.{planned}
use Rattle.probe_clusters.specs.Deeds.{Plan, StandsFor, ReachedBy}
use Rattle.probe_clusters.proofs.Pushes.{stands-planned}
use Rattle.probe_clusters.proofs.Bounds.{reached-push, reached-more}
use Rattle.probe_clusters.proofs.probes.Clusters.plan.Goals as goal

pub returns-in-Ok-clause-stands : goal.returns-in-Ok-clause-stands
returns-in-Ok-clause-stands c = λ ds h.
    let P : List Cluster → Type 0 = λ cs. StandsFor cs (ds ++ Plan c.args.rate ∷ []) in
    let new : c.add.new.self.items ≡ c.args.self.now.items ++ planned c.args.rate ∷ [] = search rules in
    subst P (sym new) (stands-planned c.args.self.now.items ds c.args.rate h)

pub returns-in-Ok-clause-reached : goal.returns-in-Ok-clause-reached
returns-in-Ok-clause-reached c = λ sends credits h.
    let P : List Cluster → Type 0 = λ cs. ReachedBy (sends + 0) (credits + 0) cs in
    let new : c.add.new.self.items ≡ c.args.self.now.items ++ planned c.args.rate ∷ [] = search rules in
    reached-more (sends + 0) (credits + 0) sends credits _ (omega arith) (omega arith)
    (subst P (sym new) (reached-push sends credits c.args.self.now.items (c.args.self.now.items ++ planned c.args.rate ∷ []) (Plan c.args.rate) tt
    (λ ds h. stands-planned c.args.self.now.items ds c.args.rate h) h))
