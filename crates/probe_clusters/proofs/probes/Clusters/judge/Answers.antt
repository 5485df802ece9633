use Rattle.std.proofs.Common.{◌≡◌, ℕ, ◌+◌, ◌<◌, List, [], ◌∷◌, ◌++◌, length, Option, IfSome, sym, ap, subst, ◌∙◌, rules, arith}
use Rattle.gcc_units.specs.Listed.{Listed}
use Rattle.probe_clusters.specs.declared.cluster.Cluster.{Cluster}
use Rattle.probe_clusters.specs.Cluster.{with_credit}
use Rattle.probe_clusters.specs.Clusters.{changed, changed_where}
use Rattle.probe_clusters.specs.Deeds.{Note, StandsFor, ReachedBy}
use Rattle.probe_clusters.proofs.Places.{found, written}
use Rattle.probe_clusters.proofs.Pushes.{stands-noted, stands-unnoted}
use Rattle.probe_clusters.proofs.Bounds.{small-at, reached-push, reached-more}
use Rattle.probe_clusters.proofs.probes.Clusters.judge.Goals as goal

pub returns-in_default-clause-stands : goal.returns-in_default-clause-stands
returns-in_default-clause-stands c = λ ds h. stands-unnoted c.args.self.now.items ds c.args.credit.now (search rules) h

pub with_credit-cluster-requires-clause-small : goal.with_credit-cluster-requires-clause-small
with_credit-cluster-requires-clause-small c =
    let items = c.args.self.now.items in
    let id = c.in-Some.id in
    let same : c.self.inside.held.items ≡ items = ap (λ (v : Listed Cluster). v.items) c.self.view_is in
    let P : Option ℕ → Type 0 = λ o. IfSome o (λ k. k < length items) in
    let below : id < length items = subst P c.in-Some.is c.requires.named in
    small-at items id c.index.result.now c.requires.within
    (found c.self.inside.held.items items id c.index.result.now same below c.index.ensures)

pub returns-clause-items : goal.returns-clause-items
returns-clause-items c =
    let items = c.args.self.now.items in
    let id = c.in-Some.id in
    let same : c.self.inside.held.items ≡ items = ap (λ (v : Listed Cluster). v.items) c.self.view_is in
    let P : Option ℕ → Type 0 = λ o. IfSome o (λ k. k < length items) in
    let below : id < length items = subst P c.in-Some.is c.requires.named in
    c.write.ensures.items ∙ written (with_credit c.args.credit.now) c.self.inside.held.items items id c.index.result.now c.with_credit-cluster.result same below c.index.ensures c.with_credit-cluster.ensures
    ∙ ap (λ (o : Option ℕ). changed_where (with_credit c.args.credit.now) o items) (sym c.in-Some.is)

pub returns-clause-stands : goal.returns-clause-stands
returns-clause-stands c = λ ds h.
    let items = c.args.self.now.items in
    let id = c.in-Some.id in
    let same : c.self.inside.held.items ≡ items = ap (λ (v : Listed Cluster). v.items) c.self.view_is in
    let P : Option ℕ → Type 0 = λ o. IfSome o (λ k. k < length items) in
    let below : id < length items = subst P c.in-Some.is c.requires.named in
    let new = c.write.ensures.items ∙ written (with_credit c.args.credit.now) c.self.inside.held.items items id c.index.result.now c.with_credit-cluster.result same below c.index.ensures c.with_credit-cluster.ensures in
    let P : List Cluster → Type 0 = λ cs. StandsFor cs (ds ++ Note c.args.credit.now ∷ []) in
    subst P (sym new) (stands-noted items ds c.args.credit.now id c.in-Some.is below h)

pub returns-clause-reached : goal.returns-clause-reached
returns-clause-reached c = λ sends credits h.
    let items = c.args.self.now.items in
    let id = c.in-Some.id in
    let same : c.self.inside.held.items ≡ items = ap (λ (v : Listed Cluster). v.items) c.self.view_is in
    let P : Option ℕ → Type 0 = λ o. IfSome o (λ k. k < length items) in
    let below : id < length items = subst P c.in-Some.is c.requires.named in
    let new = c.write.ensures.items ∙ written (with_credit c.args.credit.now) c.self.inside.held.items items id c.index.result.now c.with_credit-cluster.result same below c.index.ensures c.with_credit-cluster.ensures in
    let P : List Cluster → Type 0 = λ cs. ReachedBy (sends + 0) (credits + 1) cs in
    reached-more (sends + 0) (credits + 1) sends (credits + 1) _ (omega arith) (omega arith)
    (subst P (sym new) (reached-push sends credits items (changed (with_credit c.args.credit.now) id items) (Note c.args.credit.now) c.requires.size
    (λ ds h. stands-noted items ds c.args.credit.now id c.in-Some.is below h) h))

pub returns-in_default-clause-reached : goal.returns-in_default-clause-reached
returns-in_default-clause-reached c = λ sends credits h. reached-more sends credits sends (credits + 1) c.args.self.now.items (omega arith) (omega arith) h
