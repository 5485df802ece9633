-- One credit more at the clusters, and one result more for the controls.
use Rattle.std.proofs.Common.{ℕ, zero, suc, ◌≡◌, ◌+◌, ◌<◌, ◌≤◌, List, [], ◌∷◌, ◌++◌, length, get_or, take, map, Option, Some, None, refl, ap, ◌∙◌, sym, append_assoc}
use Rattle.std.proofs.lemmas.List.{take_more, take_all, map-append}
use Rattle.gcc_units.specs.declared.shared_types.Credit.{Credit}
use Rattle.probe_clusters.specs.declared.cluster.Cluster.{Cluster}
use Rattle.probe_clusters.specs.declared.probes.Outcome.{Outcome}
use Rattle.probe_clusters.specs.Cluster.{with_credit}
use Rattle.probe_clusters.specs.Clusters.{changed, changed_where, noted}
use Rattle.probe_clusters.specs.Deeds.{Deed, takings}

length-changed : (f : Cluster → Cluster) (id : ℕ) (cs : List Cluster) → length (changed f id cs) ≡ length cs
length-changed f id [] = refl
length-changed f zero (c ∷ cs) = refl
length-changed f (suc id) (c ∷ cs) = ap suc (length-changed f id cs)

length-changed_where : (f : Cluster → Cluster) (o : Option ℕ) (cs : List Cluster) → length (changed_where f o cs) ≡ length cs
length-changed_where f None cs = refl
length-changed_where f (Some id) cs = length-changed f id cs

-- a credit leaves as many clusters
pub length-noted : (c : Credit) (cs : List Cluster) → length (noted c cs) ≡ length cs
length-noted c cs = length-changed_where (with_credit c) c.cluster cs

-- what the credits as far as a place give, and then the credit there
pub given_more : {B : Type 0} (f : Credit → B) (before : List B) (xs : List Credit) (i : ℕ) (none : Credit) → i < length xs
    → (before ++ map f (take i xs)) ++ f (get_or xs i none) ∷ [] ≡ before ++ map f (take (i + 1) xs)
given_more {B} f before xs i none inside =
    append_assoc before (map f (take i xs)) (f (get_or xs i none) ∷ [])
    ∙ ap (λ (ys : List B). before ++ ys) (sym (ap (map f) (take_more xs i none inside) ∙ map-append f (take i xs) (get_or xs i none ∷ [])))

-- after the last place it is all of them
pub given_all : {B : Type 0} (f : Credit → B) (before : List B) (xs : List Credit) (i : ℕ) → length xs ≤ i → before ++ map f (take i xs) ≡ before ++ map f xs
given_all {B} f before xs i past = ap (λ (ys : List Credit). before ++ map f ys) (take_all i xs past)

-- the takings of the results, where one of them is taken out
pub takings_more : (es ds : List Deed) (o : Outcome) (all rest : List Outcome) → all ≡ o ∷ rest → es ++ takings all ≡ ds
    → (es ++ takings (o ∷ [])) ++ takings rest ≡ ds
takings_more es ds o all rest first e =
    append_assoc es (takings (o ∷ [])) (takings rest) ∙ ap (λ (os : List Outcome). es ++ takings os) (sym first) ∙ e
