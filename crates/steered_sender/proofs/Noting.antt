-- One credit more at the clusters, and one result more for the control.
use Rattle.std.proofs.Common.{◌≡◌, ℕ, zero, suc, ◌+◌, ◌<◌, ◌≤◌, Bool, true, false, cond, List, [], ◌∷◌, ◌++◌, length, get_or, take, drop, map, subst, Option, Some, None, refl, ap, ◌∙◌, sym, arith, append_assoc, length-append}
use Rattle.std.proofs.lemmas.List.{take_more, take_all, map-append}
use Rattle.std.proofs.Math.Seq.{drop-cons}
use Rattle.gcc_units.specs.declared.limits.TheConstants.{MOST_PACKETS}
use Rattle.gcc_units.specs.declared.shared_types.Credit.{Credit}
use Rattle.gcc_units.proofs.Walk.{flat_map-push}
use Rattle.probe_clusters.specs.declared.cluster.Cluster.{Cluster}
use Rattle.probe_clusters.specs.declared.probes.Outcome.{Outcome}
use Rattle.probe_clusters.specs.Cluster.{with_credit, is_ready}
use Rattle.probe_clusters.specs.Clusters.{changed, changed_where, noted, outcome, outcomes_from, outcomes, due}
use Rattle.probe_clusters.specs.Deeds.{Deed, ReachedBy, takings}
use Rattle.pacer.specs.declared.sent.Sent.{Sent}
use Rattle.pacer.specs.Course.{probe_by, probes_of}
use Rattle.pacer.specs.Pace.{clusters_after}
use Rattle.steered_sender.specs.Following.{IsForDue, AreForDue}

length-changed : (f : Cluster → Cluster) (id : ℕ) (cs : List Cluster) → length (changed f id cs) ≡ length cs
length-changed f id [] = refl
length-changed f zero (c ∷ cs) = refl
length-changed f (suc id) (c ∷ cs) = ap suc (length-changed f id cs)

length-changed_where : (f : Cluster → Cluster) (o : Option ℕ) (cs : List Cluster) → length (changed_where f o cs) ≡ length cs
length-changed_where f None cs = refl
length-changed_where f (Some id) cs = length-changed f id cs

-- a credit leaves as many clusters
pub length-noted : (c : Credit) (cs : List Cluster) → length (noted c cs) ≡ length cs
length-noted c cs = length-changed_where (with_credit c) c.cluster cs

-- what the credits as far as a place give, and then the credit there
pub given_more : {B : Type 0} (f : Credit → B) (before : List B) (xs : List Credit) (i : ℕ) (none : Credit) → i < length xs
    → (before ++ map f (take i xs)) ++ f (get_or xs i none) ∷ [] ≡ before ++ map f (take (i + 1) xs)
given_more {B} f before xs i none inside =
    append_assoc before (map f (take i xs)) (f (get_or xs i none) ∷ [])
    ∙ ap (λ (ys : List B). before ++ ys) (sym (ap (map f) (take_more xs i none inside) ∙ map-append f (take i xs) (get_or xs i none ∷ [])))

-- after the last place it is all of them
pub given_all : {B : Type 0} (f : Credit → B) (before : List B) (xs : List Credit) (i : ℕ) → length xs ≤ i → before ++ map f (take i xs) ≡ before ++ map f xs
given_all {B} f before xs i past = ap (λ (ys : List Credit). before ++ map f ys) (take_all i xs past)

-- the takings of the results, where one of them is taken out
pub takings_more : (es ds : List Deed) (o : Outcome) (all rest : List Outcome) → all ≡ o ∷ rest → es ++ takings all ≡ ds
    → (es ++ takings (o ∷ [])) ++ takings rest ≡ ds
takings_more es ds o all rest first e =
    append_assoc es (takings (o ∷ [])) (takings rest) ∙ ap (λ (os : List Outcome). es ++ takings os) (sym first) ∙ e

-- no more results than clusters
few_from : (id : ℕ) (cs : List Cluster) → length (outcomes_from id cs) ≤ length cs
few_from id [] = omega arith
few_from id (c ∷ cs) =
    let rest : length (outcomes_from (id + 1) cs) ≤ length cs = few_from (id + 1) cs in
    let one : length (cond (is_ready c) (outcome id c ∷ []) []) ≤ 1 = at_most (is_ready c) in
    rw (length-append (cond (is_ready c) (outcome id c ∷ []) [])) (omega arith)
  where
    at_most : (b : Bool) → length (cond b (outcome id c ∷ []) []) ≤ 1
    at_most true = omega arith
    at_most false = omega arith

pub few_outcomes : (cs : List Cluster) → length (outcomes cs) ≤ length cs
few_outcomes cs = few_from 0 cs

-- ---- the sends of a pace

-- the packet at a place is for the cluster that is due, and so on
pub due-here : (moment : ℕ) (cs : List Cluster) (rs : List Sent) (i : ℕ) (none : Sent) → i < length rs → AreForDue moment cs (drop i rs)
    → IsForDue (due cs moment) (get_or rs i none).kind × AreForDue moment (clusters_after moment cs (get_or rs i none)) (drop (i + 1) rs)
due-here moment cs rs i none inside h =
    let next : suc i ≡ i + 1 = omega arith in
    subst (AreForDue moment cs) (drop-cons rs i none inside ∙ ap (λ n. get_or rs i none ∷ drop n rs) next) h

-- fewer sends and credits than the most
pub reached-all : (sends : ℕ) (cs : List Cluster) → ReachedBy sends MOST_PACKETS cs → sends ≤ MOST_PACKETS → ReachedBy MOST_PACKETS MOST_PACKETS cs
reached-all sends cs r few = record {
  deeds = r.deeds;
  stands = r.stands;
  within = record { few_sends = omega (arith, r.within.few_sends, few); few_credits = r.within.few_credits; sizes = r.within.sizes };
}

pub follows-more : (moment : ℕ) (ds : List Deed) (rs : List Sent) (i : ℕ) (none : Sent) → i < length rs
    → (ds ++ probes_of moment (take i rs)) ++ probe_by moment (get_or rs i none) ≡ ds ++ probes_of moment (take (i + 1) rs)
follows-more moment ds rs i none inside =
    append_assoc ds (probes_of moment (take i rs)) (probe_by moment (get_or rs i none))
    ∙ ap (λ (es : List Deed). ds ++ es) (sym (ap (probes_of moment) (take_more rs i none inside) ∙ flat_map-push (probe_by moment) (take i rs) (get_or rs i none)))

pub follows-all : (moment : ℕ) (ds : List Deed) (rs : List Sent) (i : ℕ) → length rs ≤ i → ds ++ probes_of moment (take i rs) ≡ ds ++ probes_of moment rs
follows-all moment ds rs i past = ap (λ (xs : List Sent). ds ++ probes_of moment xs) (take_all i rs past)
