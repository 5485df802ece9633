use Rattle.std.proofs.Common.{◌≡◌, ℕ, ◌+◌, List, [], ◌∷◌, ◌++◌, length, position, Option, Some, None, refl, sym, ap, subst, ◌∙◌, rules, arith}
use Rattle.gcc_units.specs.Listed.{Listed}
use Rattle.probe_clusters.specs.declared.cluster.Cluster.{Cluster}
use Rattle.probe_clusters.specs.declared.probes.Outcome.{Outcome}
use Rattle.probe_clusters.specs.Cluster.{is_ready, with_result_taken}
use Rattle.probe_clusters.specs.Clusters.{changed, ready, outcome, outcomes, after_outcomes}
use Rattle.probe_clusters.specs.Deeds.{Take, StandsFor, ReachedBy}
use Rattle.probe_clusters.proofs.Places.{IsFirst, first_found, place_of, found, written}
use Rattle.probe_clusters.proofs.Pushes.{stands-taken}
use Rattle.probe_clusters.proofs.Taking.{Took, took, NoneLeft, none_left}
use Rattle.probe_clusters.proofs.Bounds.{reached-push, reached-more}
use Rattle.probe_clusters.proofs.probes.Clusters.ready.Goals as goal

pub returns-in_default-clause-none : goal.returns-in_default-clause-none
returns-in_default-clause-none c =
    let items = c.args.self.now.items in
    let same : c.self.inside.held.items ≡ items = ap (λ (v : Listed Cluster). v.items) c.self.view_is in
    let place : position is_ready items ≡ None =
    place_of is_ready c.as_slice.result.now c.self.inside.held.items items c.first_ready.result None c.first_ready.ensures (search rules) c.as_slice.ensures.value same in
    let none : NoneLeft items = none_left items place in
    (λ _. none.no_outcomes, λ _. refl)

pub returns-in_default-clause-all_taken : goal.returns-in_default-clause-all_taken
returns-in_default-clause-all_taken c =
    let items = c.args.self.now.items in
    let same : c.self.inside.held.items ≡ items = ap (λ (v : Listed Cluster). v.items) c.self.view_is in
    let place : position is_ready items ≡ None =
    place_of is_ready c.as_slice.result.now c.self.inside.held.items items c.first_ready.result None c.first_ready.ensures (search rules) c.as_slice.ensures.value same in
    let none : NoneLeft items = none_left items place in
    none.end

pub write-requires-clause-known : goal.write-requires-clause-known
write-requires-clause-known c =
    let held = c.self.inside.held.items in
    let place : position is_ready held ≡ Some c.in-Some.id =
    place_of is_ready c.as_slice.result.now held held c.first_ready.result (Some c.in-Some.id) c.first_ready.ensures c.in-Some.is c.as_slice.ensures.value refl in
    let one : IsFirst is_ready held c.in-Some.id = first_found is_ready held c.in-Some.id place in
    record {
      count = c.self.invariant.3.count;
      none = record { below = omega (arith, one.below); none = one.earlier };
    }

pub returns-clause-value : goal.returns-clause-value
returns-clause-value c =
    let items = c.args.self.now.items in
    let id = c.in-Some.id in
    let same : c.self.inside.held.items ≡ items = ap (λ (v : Listed Cluster). v.items) c.self.view_is in
    let place : position is_ready items ≡ Some id =
    place_of is_ready c.as_slice.result.now c.self.inside.held.items items c.first_ready.result (Some id) c.first_ready.ensures c.in-Some.is c.as_slice.ensures.value same in
    let one : IsFirst is_ready items id = first_found is_ready items id place in
    let new = c.write.ensures.items ∙ written with_result_taken c.self.inside.held.items items id c.index.result.now c.with_result_taken.result same one.below c.index.ensures c.with_result_taken.ensures in
    let this : Took items id c.index.result.now = took items id c.index.result.now place (found c.self.inside.held.items items id c.index.result.now same one.below c.index.ensures) in
    let given : outcome id c.index.result.now ≡ record { id = id; result = c.result.result } = ap (λ (r : Option ℕ). record { id = id; result = r }) (sym c.result.ensures) in
    sym (this.value ∙ ap Some given)

pub returns-clause-answer : goal.returns-clause-answer
returns-clause-answer c = λ ds h. returns-clause-value c ∙ ap ready h.are

pub returns-clause-items : goal.returns-clause-items
returns-clause-items c =
    let items = c.args.self.now.items in
    let id = c.in-Some.id in
    let same : c.self.inside.held.items ≡ items = ap (λ (v : Listed Cluster). v.items) c.self.view_is in
    let place : position is_ready items ≡ Some id =
    place_of is_ready c.as_slice.result.now c.self.inside.held.items items c.first_ready.result (Some id) c.first_ready.ensures c.in-Some.is c.as_slice.ensures.value same in
    let one : IsFirst is_ready items id = first_found is_ready items id place in
    let new = c.write.ensures.items ∙ written with_result_taken c.self.inside.held.items items id c.index.result.now c.with_result_taken.result same one.below c.index.ensures c.with_result_taken.ensures in
    let this : Took items id c.index.result.now = took items id c.index.result.now place (found c.self.inside.held.items items id c.index.result.now same one.below c.index.ensures) in
    let given : outcome id c.index.result.now ≡ record { id = id; result = c.result.result } = ap (λ (r : Option ℕ). record { id = id; result = r }) (sym c.result.ensures) in
    new ∙ sym this.after

pub returns-clause-stands : goal.returns-clause-stands
returns-clause-stands c = λ ds h.
    let items = c.args.self.now.items in
    let id = c.in-Some.id in
    let same : c.self.inside.held.items ≡ items = ap (λ (v : Listed Cluster). v.items) c.self.view_is in
    let place : position is_ready items ≡ Some id =
    place_of is_ready c.as_slice.result.now c.self.inside.held.items items c.first_ready.result (Some id) c.first_ready.ensures c.in-Some.is c.as_slice.ensures.value same in
    let one : IsFirst is_ready items id = first_found is_ready items id place in
    let new = c.write.ensures.items ∙ written with_result_taken c.self.inside.held.items items id c.index.result.now c.with_result_taken.result same one.below c.index.ensures c.with_result_taken.ensures in
    let this : Took items id c.index.result.now = took items id c.index.result.now place (found c.self.inside.held.items items id c.index.result.now same one.below c.index.ensures) in
    let given : outcome id c.index.result.now ≡ record { id = id; result = c.result.result } = ap (λ (r : Option ℕ). record { id = id; result = r }) (sym c.result.ensures) in
    let P : List Cluster → Type 0 = λ cs. StandsFor cs (ds ++ Take id ∷ []) in
    subst P (sym new) (stands-taken items ds id one.below h)

pub returns-clause-reached : goal.returns-clause-reached
returns-clause-reached c = λ sends credits h.
    let items = c.args.self.now.items in
    let id = c.in-Some.id in
    let same : c.self.inside.held.items ≡ items = ap (λ (v : Listed Cluster). v.items) c.self.view_is in
    let place : position is_ready items ≡ Some id =
    place_of is_ready c.as_slice.result.now c.self.inside.held.items items c.first_ready.result (Some id) c.first_ready.ensures c.in-Some.is c.as_slice.ensures.value same in
    let one : IsFirst is_ready items id = first_found is_ready items id place in
    let new = c.write.ensures.items ∙ written with_result_taken c.self.inside.held.items items id c.index.result.now c.with_result_taken.result same one.below c.index.ensures c.with_result_taken.ensures in
    let this : Took items id c.index.result.now = took items id c.index.result.now place (found c.self.inside.held.items items id c.index.result.now same one.below c.index.ensures) in
    let given : outcome id c.index.result.now ≡ record { id = id; result = c.result.result } = ap (λ (r : Option ℕ). record { id = id; result = r }) (sym c.result.ensures) in
    let P : List Cluster → Type 0 = λ cs. ReachedBy (sends + 0) (credits + 0) cs in
    reached-more (sends + 0) (credits + 0) sends credits _ (omega arith) (omega arith)
    (subst P (sym new) (reached-push sends credits items (changed with_result_taken id items) (Take id) tt (λ ds h. stands-taken items ds id one.below h) h))

pub returns-clause-first : goal.returns-clause-first
returns-clause-first c =
    let items = c.args.self.now.items in
    let id = c.in-Some.id in
    let same : c.self.inside.held.items ≡ items = ap (λ (v : Listed Cluster). v.items) c.self.view_is in
    let place : position is_ready items ≡ Some id =
    place_of is_ready c.as_slice.result.now c.self.inside.held.items items c.first_ready.result (Some id) c.first_ready.ensures c.in-Some.is c.as_slice.ensures.value same in
    let one : IsFirst is_ready items id = first_found is_ready items id place in
    let new = c.write.ensures.items ∙ written with_result_taken c.self.inside.held.items items id c.index.result.now c.with_result_taken.result same one.below c.index.ensures c.with_result_taken.ensures in
    let this : Took items id c.index.result.now = took items id c.index.result.now place (found c.self.inside.held.items items id c.index.result.now same one.below c.index.ensures) in
    let given : outcome id c.index.result.now ≡ record { id = id; result = c.result.result } = ap (λ (r : Option ℕ). record { id = id; result = r }) (sym c.result.ensures) in
    this.first ∙ ap (λ (o : Outcome). o ∷ outcomes (changed with_result_taken id items)) given
    ∙ ap (λ (cs : List Cluster). record { id = id; result = c.result.result } ∷ outcomes cs) (sym new)

pub returns-clause-fewer : goal.returns-clause-fewer
returns-clause-fewer c =
    let items = c.args.self.now.items in
    let id = c.in-Some.id in
    let same : c.self.inside.held.items ≡ items = ap (λ (v : Listed Cluster). v.items) c.self.view_is in
    let place : position is_ready items ≡ Some id =
    place_of is_ready c.as_slice.result.now c.self.inside.held.items items c.first_ready.result (Some id) c.first_ready.ensures c.in-Some.is c.as_slice.ensures.value same in
    let one : IsFirst is_ready items id = first_found is_ready items id place in
    let new = c.write.ensures.items ∙ written with_result_taken c.self.inside.held.items items id c.index.result.now c.with_result_taken.result same one.below c.index.ensures c.with_result_taken.ensures in
    let this : Took items id c.index.result.now = took items id c.index.result.now place (found c.self.inside.held.items items id c.index.result.now same one.below c.index.ensures) in
    let given : outcome id c.index.result.now ≡ record { id = id; result = c.result.result } = ap (λ (r : Option ℕ). record { id = id; result = r }) (sym c.result.ensures) in
    λ _. omega (arith, ap (length {A = Outcome}) this.first, ap (λ (cs : List Cluster). length (outcomes cs)) new)

pub returns-clause-end : goal.returns-clause-end
returns-clause-end c =
    let items = c.args.self.now.items in
    let id = c.in-Some.id in
    let same : c.self.inside.held.items ≡ items = ap (λ (v : Listed Cluster). v.items) c.self.view_is in
    let place : position is_ready items ≡ Some id =
    place_of is_ready c.as_slice.result.now c.self.inside.held.items items c.first_ready.result (Some id) c.first_ready.ensures c.in-Some.is c.as_slice.ensures.value same in
    let one : IsFirst is_ready items id = first_found is_ready items id place in
    let new = c.write.ensures.items ∙ written with_result_taken c.self.inside.held.items items id c.index.result.now c.with_result_taken.result same one.below c.index.ensures c.with_result_taken.ensures in
    let this : Took items id c.index.result.now = took items id c.index.result.now place (found c.self.inside.held.items items id c.index.result.now same one.below c.index.ensures) in
    let given : outcome id c.index.result.now ≡ record { id = id; result = c.result.result } = ap (λ (r : Option ℕ). record { id = id; result = r }) (sym c.result.ensures) in
    ap after_outcomes new ∙ this.end

pub returns-clause-none : goal.returns-clause-none
returns-clause-none c =
    let items = c.args.self.now.items in
    let id = c.in-Some.id in
    let same : c.self.inside.held.items ≡ items = ap (λ (v : Listed Cluster). v.items) c.self.view_is in
    let place : position is_ready items ≡ Some id =
    place_of is_ready c.as_slice.result.now c.self.inside.held.items items c.first_ready.result (Some id) c.first_ready.ensures c.in-Some.is c.as_slice.ensures.value same in
    let one : IsFirst is_ready items id = first_found is_ready items id place in
    let new = c.write.ensures.items ∙ written with_result_taken c.self.inside.held.items items id c.index.result.now c.with_result_taken.result same one.below c.index.ensures c.with_result_taken.ensures in
    let this : Took items id c.index.result.now = took items id c.index.result.now place (found c.self.inside.held.items items id c.index.result.now same one.below c.index.ensures) in
    let given : outcome id c.index.result.now ≡ record { id = id; result = c.result.result } = ap (λ (r : Option ℕ). record { id = id; result = r }) (sym c.result.ensures) in
    (λ h. absurd cc, λ h. let e = sym h ∙ this.first in absurd cc)
