-- Credits and takings, one after another.
use Rattle.std.proofs.Common.{◌≡◌, ℕ, suc, zero, ◌<◌, List, [], ◌∷◌, ◌++◌, length, map, position, Option, Some, None, All, get_or, refl, sym, ap, subst, append_assoc, append-nil, arith}
use Rattle.std.proofs.lemmas.List.Elements.{All-head, All-tail}
use Rattle.std.proofs.lemmas.Option.{slice_get-get_or}
use Rattle.gcc_units.specs.declared.shared_types.Credit.{Credit}
use Rattle.probe_clusters.specs.declared.cluster.Cluster.{Cluster}
use Rattle.probe_clusters.specs.declared.probes.Outcome.{Outcome}
use Rattle.probe_clusters.specs.Cluster.{planned, is_ready, with_credit, with_result_taken}
use Rattle.probe_clusters.specs.Clusters.{changed, changed_where, noted, noted_all, outcomes, after_outcomes}
use Rattle.probe_clusters.specs.Deeds.{Deed, Note, Take, NamedBelow, StandsFor, takings}
use Rattle.probe_clusters.specs.Laws.{CreditsStand, OutcomesStand}
use Rattle.probe_clusters.proofs.Places.{IsFirst, first_found}
use Rattle.probe_clusters.proofs.Pushes.{stands-noted, stands-unnoted, stands-taken}
use Rattle.probe_clusters.proofs.Taking.{Took, took, NoneLeft, none_left}

length-changed : (f : Cluster → Cluster) (id : ℕ) (cs : List Cluster) → length (changed f id cs) ≡ length cs
length-changed f id [] = refl
length-changed f zero (c ∷ cs) = refl
length-changed f (suc id) (c ∷ cs) = ap suc (length-changed f id cs)

length-changed_where : (f : Cluster → Cluster) (o : Option ℕ) (cs : List Cluster) → length (changed_where f o cs) ≡ length cs
length-changed_where f None cs = refl
length-changed_where f (Some id) cs = length-changed f id cs

stands-note_at : (cs : List Cluster) (ds : List Deed) (credit : Credit) (o : Option ℕ) → credit.cluster ≡ o → NamedBelow (length cs) o → StandsFor cs ds
    → StandsFor (changed_where (with_credit credit) o cs) (ds ++ Note credit ∷ [])
stands-note_at cs ds credit None is named h = stands-unnoted cs ds credit is h
stands-note_at cs ds credit (Some id) is named h = stands-noted cs ds credit id is named h

pub credits_stand : CreditsStand
credits_stand cs ds [] named h = subst (StandsFor cs) (sym (append-nil ds)) h
credits_stand cs ds (c ∷ credits) named h =
    let Named : List Cluster → Credit → Type 0 = λ bs d. NamedBelow (length bs) d.cluster in
    let one : StandsFor (noted c cs) (ds ++ Note c ∷ []) = stands-note_at cs ds c c.cluster refl (All-head (Named cs) c credits named) h in
    let P : ℕ → Type 0 = λ n. All (λ (d : Credit). NamedBelow n d.cluster) credits in
    let others : P (length (noted c cs)) = subst P (sym (length-changed_where (with_credit c) c.cluster cs)) (All-tail (Named cs) c credits named) in
    subst (StandsFor (noted_all credits (noted c cs))) (append_assoc ds (Note c ∷ []) (map (λ (d : Credit). Note d) credits))
    (credits_stand (noted c cs) (ds ++ Note c ∷ []) credits others one)

-- with at most so many left to take
outcomes_left : (most : ℕ) (cs : List Cluster) (ds : List Deed) → length (outcomes cs) < most → StandsFor cs ds → StandsFor (after_outcomes cs) (ds ++ takings (outcomes cs))
outcomes_left zero cs ds few h = absurd (omega arith)
outcomes_left (suc most) cs ds few h = by_place (position is_ready cs) refl (λ bs es l g. outcomes_left most bs es l g)
  where
    by_place : (o : Option ℕ) → position is_ready cs ≡ o → ((bs : List Cluster) (es : List Deed) → length (outcomes bs) < most → StandsFor bs es → StandsFor (after_outcomes bs) (es ++ takings (outcomes bs)))
        → StandsFor (after_outcomes cs) (ds ++ takings (outcomes cs))
    by_place None place next =
        let none : NoneLeft cs = none_left cs place in
        let P : List Cluster → Type 0 = λ bs. StandsFor bs (ds ++ takings (outcomes cs)) in
        let Q : List Outcome → Type 0 = λ os. StandsFor cs (ds ++ takings os) in
        subst P (sym none.end) (subst Q (sym none.no_outcomes) (subst (StandsFor cs) (sym (append-nil ds)) h))
    by_place (Some id) place next =
        let one : IsFirst is_ready cs id = first_found is_ready cs id place in
        let c : Cluster = get_or cs id (planned 0) in
        let this : Took cs id c = took cs id c place (slice_get-get_or cs id (planned 0) one.below) in
        let bs : List Cluster = changed with_result_taken id cs in
        let rest : StandsFor (after_outcomes bs) ((ds ++ Take id ∷ []) ++ takings (outcomes bs)) =
        next bs (ds ++ Take id ∷ []) (omega (arith, ap (length {A = Outcome}) this.first)) (stands-taken cs ds id one.below h) in
        let P : List Cluster → Type 0 = λ xs. StandsFor xs (ds ++ takings (outcomes cs)) in
        let Q : List Outcome → Type 0 = λ os. StandsFor (after_outcomes bs) (ds ++ takings os) in
        subst P this.end (subst Q (sym this.first) (subst (StandsFor (after_outcomes bs)) (append_assoc ds (Take id ∷ []) (takings (outcomes bs))) rest))

pub outcomes_stand : OutcomesStand
outcomes_stand cs ds h = outcomes_left (suc (length (outcomes cs))) cs ds (omega arith) h
