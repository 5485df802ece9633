-- Outcomes, taken one after another.
use Rattle.std.proofs.Common.{◌≡◌, ℕ, suc, zero, ◌+◌, ◌<◌, Bool, true, false, if◌then◌else◌, List, [], ◌∷◌, ◌++◌, length, position, slice_get, Option, Some, None, get_or, refl, sym, ap, ◌∙◌, option_map, arith}
use Rattle.std.proofs.lemmas.Option.{get_or_from_slice_get}
use Rattle.probe_clusters.specs.declared.cluster.Cluster.{Cluster}
use Rattle.probe_clusters.specs.declared.probes.Outcome.{Outcome}
use Rattle.probe_clusters.specs.Cluster.{is_ready, with_result_taken}
use Rattle.probe_clusters.specs.Clusters.{changed, changed_where, ready_at, outcome, outcomes_from, outcomes, after_outcomes, ready, after_ready}
use Rattle.probe_clusters.proofs.Places.{IsFirst, first_found, none_found}

head_taken : (b : Bool) (o : Outcome) (os : List Outcome) → b ≡ true → (if b then o ∷ [] else []) ++ os ≡ o ∷ os
head_taken true o os h = refl
head_taken false o os h = cc

head_left : (b : Bool) (o : Outcome) (os : List Outcome) → b ≡ false → (if b then o ∷ [] else []) ++ os ≡ os
head_left true o os h = cc
head_left false o os h = refl

outcome-same : (m n : ℕ) (x c : Cluster) → m ≡ n → x ≡ c → outcome m x ≡ outcome n c
outcome-same m n x c p q = ap (λ i. outcome i x) p ∙ ap (outcome n) q

-- the first that is ready gives the first outcome, and the others are left
outcomes-changed : (n : ℕ) (cs : List Cluster) (id : ℕ) (c : Cluster) → slice_get cs id ≡ Some c → is_ready c ≡ true → ((k : ℕ) (d : Cluster) → k < id → is_ready (get_or cs k d) ≡ false)
    → outcomes_from n cs ≡ outcome (n + id) c ∷ outcomes_from n (changed with_result_taken id cs)
outcomes-changed n [] id c at passes earlier = cc
outcomes-changed n (x ∷ cs) zero c at passes earlier =
    let same : x ≡ c = cc in
    head_taken (is_ready x) (outcome n x) (outcomes_from (n + 1) cs) (ap is_ready same ∙ passes)
    ∙ ap (λ (o : Outcome). o ∷ outcomes_from (n + 1) cs) (outcome-same n (n + 0) x c (omega arith) same)
outcomes-changed n (x ∷ cs) (suc id) c at passes earlier =
    let left : is_ready x ≡ false = earlier 0 x (omega arith) in
    head_left (is_ready x) (outcome n x) (outcomes_from (n + 1) cs) left
    ∙ outcomes-changed (n + 1) cs id c at passes (λ k d l. earlier (suc k) d (omega arith))
    ∙ ap (λ (o : Outcome). o ∷ outcomes_from (n + 1) (changed with_result_taken id cs)) (outcome-same (n + 1 + id) (n + suc id) c c (omega arith) refl)
    ∙ ap (λ (os : List Outcome). outcome (n + suc id) c ∷ os) (sym (head_left (is_ready x) (outcome n x) (outcomes_from (n + 1) (changed with_result_taken id cs)) left))

taken_if-ready : (b : Bool) (c : Cluster) → b ≡ true → (if b then with_result_taken c else c) ≡ with_result_taken c
taken_if-ready true c h = refl
taken_if-ready false c h = cc

taken_if-not : (b : Bool) (c : Cluster) → b ≡ false → (if b then with_result_taken c else c) ≡ c
taken_if-not true c h = cc
taken_if-not false c h = refl

-- what is left once all are taken is the same
after_outcomes-changed : (cs : List Cluster) (id : ℕ) (c : Cluster) → slice_get cs id ≡ Some c → is_ready c ≡ true → after_outcomes (changed with_result_taken id cs) ≡ after_outcomes cs
after_outcomes-changed [] id c at passes = refl
after_outcomes-changed (x ∷ cs) zero c at passes =
    let same : x ≡ c = cc in
    ap (λ (y : Cluster). y ∷ after_outcomes cs) (sym (taken_if-ready (is_ready x) x (ap is_ready same ∙ passes)))
after_outcomes-changed (x ∷ cs) (suc id) c at passes =
    ap (λ (ys : List Cluster). (if is_ready x then with_result_taken x else x) ∷ ys) (after_outcomes-changed cs id c at passes)

outcomes-none : (n : ℕ) (cs : List Cluster) → ((k : ℕ) (d : Cluster) → k < length cs → is_ready (get_or cs k d) ≡ false) → outcomes_from n cs ≡ []
outcomes-none n [] none = refl
outcomes-none n (x ∷ cs) none =
    head_left (is_ready x) (outcome n x) (outcomes_from (n + 1) cs) (none 0 x (omega arith)) ∙ outcomes-none (n + 1) cs (λ k d l. none (suc k) d (omega arith))

after_outcomes-none : (cs : List Cluster) → ((k : ℕ) (d : Cluster) → k < length cs → is_ready (get_or cs k d) ≡ false) → after_outcomes cs ≡ cs
after_outcomes-none [] none = refl
after_outcomes-none (x ∷ cs) none =
    ap (λ (y : Cluster). y ∷ after_outcomes cs) (taken_if-not (is_ready x) x (none 0 x (omega arith)))
    ∙ ap (λ (ys : List Cluster). x ∷ ys) (after_outcomes-none cs (λ k d l. none (suc k) d (omega arith)))

-- what the taking of the first result leaves
pub record Took (cs : List Cluster) (id : ℕ) (c : Cluster) : Type 0 where
  pub value : ready cs ≡ Some (outcome id c)
  pub after : after_ready cs ≡ changed with_result_taken id cs
  pub first : outcomes cs ≡ outcome id c ∷ outcomes (changed with_result_taken id cs)
  pub end : after_outcomes (changed with_result_taken id cs) ≡ after_outcomes cs

pub took : (cs : List Cluster) (id : ℕ) (c : Cluster) → position is_ready cs ≡ Some id → slice_get cs id ≡ Some c → Took cs id c
took cs id c place at =
    let one : IsFirst is_ready cs id = first_found is_ready cs id place in
    let passes : is_ready c ≡ true = ap is_ready (sym (get_or_from_slice_get cs id c c at)) ∙ one.passes c in
    record {
      value = ap (ready_at cs) place ∙ ap (option_map (outcome id)) at;
      after = ap (λ (o : Option ℕ). changed_where with_result_taken o cs) place;
      first = outcomes-changed 0 cs id c at passes one.earlier
          ∙ ap (λ (o : Outcome). o ∷ outcomes (changed with_result_taken id cs)) (outcome-same (0 + id) id c c (omega arith) refl);
      end = after_outcomes-changed cs id c at passes;
    }

-- where none has a result
pub record NoneLeft (cs : List Cluster) : Type 0 where
  pub value : ready cs ≡ None
  pub after : after_ready cs ≡ cs
  pub no_outcomes : outcomes cs ≡ []
  pub end : after_outcomes cs ≡ cs

pub none_left : (cs : List Cluster) → position is_ready cs ≡ None → NoneLeft cs
none_left cs place = record {
  value = ap (ready_at cs) place;
  after = ap (λ (o : Option ℕ). changed_where with_result_taken o cs) place;
  no_outcomes = outcomes-none 0 cs (none_found is_ready cs place);
  end = after_outcomes-none cs (none_found is_ready cs place);
}
