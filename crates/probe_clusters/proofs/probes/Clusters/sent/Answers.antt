use Rattle.std.proofs.Common.{◌≡◌, ℕ, ◌+◌, List, ◌++◌, length, length-set, position, slice_set, Option, Some, refl, sym, ap, subst, ◌∙◌, arith}
use Rattle.gcc_units.specs.Listed.{Listed}
use Rattle.probe_clusters.specs.declared.cluster.Cluster.{Cluster}
use Rattle.probe_clusters.specs.Cluster.{waits, with_packet}
use Rattle.probe_clusters.specs.Clusters.{AreOver, changed, changed_where, due}
use Rattle.probe_clusters.specs.Deeds.{Send, StandsFor, ReachedBy, send}
use Rattle.probe_clusters.proofs.Places.{IsFirst, first_found, place_of, found, written, due-current}
use Rattle.probe_clusters.proofs.Passed.{AreOver-sent}
use Rattle.probe_clusters.proofs.Pushes.{stands-sent}
use Rattle.probe_clusters.proofs.Bounds.{small-at, reached-push, reached-more}
use Rattle.probe_clusters.proofs.probes.Clusters.sent.Goals as goal

pub invariant_of-self : goal.invariant_of-self
invariant_of-self c =
    let held = c.self.inside.held.items in
    let place : position waits held ≡ Some c.in-Some.id =
    place_of waits c.as_slice.result.now held held c.current.result (Some c.in-Some.id) c.current.ensures c.in-Some.is c.as_slice.ensures.value refl in
    let P : ℕ → Type 0 = λ n. AreOver n (slice_set held c.in-Some.id c.with_packet-cluster.result) in
    let Q : List Cluster → Type 0 = λ cs. AreOver c.over_from-self-inside.result cs in
    let len : length c.write.new.held.items ≡ length held = ap length c.write.ensures.items ∙ length-set held c.in-Some.id c.with_packet-cluster.result in (
      omega (arith, len, c.write.ensures.capacity, c.self.invariant.0),
      omega (arith, len, c.self.invariant.1),
      subst Q (sym c.write.ensures.items)
          (subst P (sym c.over_from-self-inside.ensures) (AreOver-sent held c.in-Some.id c.with_packet-cluster.result (first_found waits held c.in-Some.id place))),
      c.write.ensures.known,
    )

pub with_packet-cluster-requires-clause-small : goal.with_packet-cluster-requires-clause-small
with_packet-cluster-requires-clause-small c =
    let items = c.args.self.now.items in
    let id = c.in-Some.id in
    let same : c.self.inside.held.items ≡ items = ap (λ (v : Listed Cluster). v.items) c.self.view_is in
    let place : position waits items ≡ Some id =
    place_of waits c.as_slice.result.now c.self.inside.held.items items c.current.result (Some id) c.current.ensures c.in-Some.is c.as_slice.ensures.value same in
    let one : IsFirst waits items id = first_found waits items id place in
    small-at items id c.index.result.now c.requires.within
    (found c.self.inside.held.items items id c.index.result.now same one.below c.index.ensures)

pub returns-clause-items : goal.returns-clause-items
returns-clause-items c =
    let items = c.args.self.now.items in
    let id = c.in-Some.id in
    let same : c.self.inside.held.items ≡ items = ap (λ (v : Listed Cluster). v.items) c.self.view_is in
    let place : position waits items ≡ Some id =
    place_of waits c.as_slice.result.now c.self.inside.held.items items c.current.result (Some id) c.current.ensures c.in-Some.is c.as_slice.ensures.value same in
    let one : IsFirst waits items id = first_found waits items id place in
    let new = c.write.ensures.items ∙ written (with_packet c.args.size c.args.now) c.self.inside.held.items items id c.index.result.now c.with_packet-cluster.result same one.below c.index.ensures c.with_packet-cluster.ensures in
    new ∙ ap (λ (o : Option ℕ). changed_where (with_packet c.args.size c.args.now) o items) (sym place)

pub returns-clause-stands : goal.returns-clause-stands
returns-clause-stands c = λ ds h.
    let items = c.args.self.now.items in
    let id = c.in-Some.id in
    let same : c.self.inside.held.items ≡ items = ap (λ (v : Listed Cluster). v.items) c.self.view_is in
    let place : position waits items ≡ Some id =
    place_of waits c.as_slice.result.now c.self.inside.held.items items c.current.result (Some id) c.current.ensures c.in-Some.is c.as_slice.ensures.value same in
    let one : IsFirst waits items id = first_found waits items id place in
    let new = c.write.ensures.items ∙ written (with_packet c.args.size c.args.now) c.self.inside.held.items items id c.index.result.now c.with_packet-cluster.result same one.below c.index.ensures c.with_packet-cluster.ensures in
    let named : due items c.args.now ≡ Some id = due-current items c.args.now id place c.requires.due in
    let stands : StandsFor (changed (with_packet c.args.size c.args.now) id items) (ds ++ send (Some id) c.args.size c.args.now) = stands-sent items ds id c.args.size c.args.now one.below h in
    let P : List Cluster → Type 0 = λ cs. StandsFor cs (ds ++ send (Some id) c.args.size c.args.now) in
    let Q : Option ℕ → Type 0 = λ o. StandsFor c.write.new.held.items (ds ++ send o c.args.size c.args.now) in
    subst Q (sym named) (subst P (sym new) stands)

pub returns-clause-reached : goal.returns-clause-reached
returns-clause-reached c = λ sends credits h.
    let items = c.args.self.now.items in
    let id = c.in-Some.id in
    let same : c.self.inside.held.items ≡ items = ap (λ (v : Listed Cluster). v.items) c.self.view_is in
    let place : position waits items ≡ Some id =
    place_of waits c.as_slice.result.now c.self.inside.held.items items c.current.result (Some id) c.current.ensures c.in-Some.is c.as_slice.ensures.value same in
    let one : IsFirst waits items id = first_found waits items id place in
    let new = c.write.ensures.items ∙ written (with_packet c.args.size c.args.now) c.self.inside.held.items items id c.index.result.now c.with_packet-cluster.result same one.below c.index.ensures c.with_packet-cluster.ensures in
    let P : List Cluster → Type 0 = λ cs. ReachedBy (sends + 1) (credits + 0) cs in
    reached-more (sends + 1) (credits + 0) (sends + 1) credits _ (omega arith) (omega arith)
    (subst P (sym new) (reached-push sends credits items (changed (with_packet c.args.size c.args.now) id items) (Send id c.args.size c.args.now) c.requires.size
    (λ ds h. stands-sent items ds id c.args.size c.args.now one.below h) h))
