-- One cluster of a list changed, and the first place that passes a test.
use Rattle.std.proofs.Common.{◌≡◌, ℕ, suc, zero, ◌<◌, Bool, true, false, List, [], ◌∷◌, length, position, slice_get, slice_set, Option, Some, None, get_or, IsSome, if◌then◌else◌, refl, sym, ap, ◌∙◌, arith}
use Rattle.std.proofs.lemmas.List.Quantifiers.{position-Some}
use Rattle.std.proofs.lemmas.List.Sums.{fails_before_first}
use Rattle.std.proofs.lemmas.Option.{slice_get-get_or}
use Rattle.std.proofs.lemmas.Bool.Decides.{nat_tests}
use Rattle.probe_clusters.specs.declared.cluster.Cluster.{Cluster}
use Rattle.probe_clusters.specs.Clusters.{changed, current, due_as, due_at, due}
use Rattle.probe_clusters.specs.Cluster.{is_due}

-- writing the changed cluster in its place
pub set-changed : (f : Cluster → Cluster) (cs : List Cluster) (id : ℕ) (c y : Cluster) → slice_get cs id ≡ Some c → y ≡ f c → slice_set cs id y ≡ changed f id cs
set-changed f [] id c y at is = cc
set-changed f (x ∷ cs) zero c y at is = ap (λ (z : Cluster). z ∷ cs) cc
set-changed f (x ∷ cs) (suc id) c y at is = ap (λ (zs : List Cluster). x ∷ zs) (set-changed f cs id c y at is)

-- the cluster that was read, and the list once it is written back changed
pub found : (hs cs : List Cluster) (id : ℕ) (c : Cluster) → hs ≡ cs → id < length cs → c ≡ get_or hs id c → slice_get cs id ≡ Some c
found hs cs id c same below is = slice_get-get_or cs id c below ∙ ap Some (sym (is ∙ ap (λ (bs : List Cluster). get_or bs id c) same))

pub written : (f : Cluster → Cluster) (hs cs : List Cluster) (id : ℕ) (c y : Cluster) → hs ≡ cs → id < length cs → c ≡ get_or hs id c → y ≡ f c → slice_set hs id y ≡ changed f id cs
written f hs cs id c y same below is new = ap (λ (bs : List Cluster). slice_set bs id y) same ∙ set-changed f cs id c y (found hs cs id c same below is) new

-- the first place that passes, and no earlier one does
pub record IsFirst (test : Cluster → Bool) (cs : List Cluster) (id : ℕ) : Type 0 where
  pub below : id < length cs
  pub passes : (d : Cluster) → test (get_or cs id d) ≡ true
  pub earlier : (k : ℕ) (d : Cluster) → k < id → test (get_or cs k d) ≡ false

pub first_found : (test : Cluster → Bool) (cs : List Cluster) (id : ℕ) → position test cs ≡ Some id → IsFirst test cs id
first_found test cs id at = record {
  below = grind (arith, nat_tests);
  passes = λ d. (position-Some test cs id d at).1;
  earlier = λ k d l. (position-Some test cs id d at).2 k l;
}

-- no place passes
pub none_found : (test : Cluster → Bool) (cs : List Cluster) → position test cs ≡ None → (k : ℕ) (d : Cluster) → k < length cs → test (get_or cs k d) ≡ false
none_found test cs at k d l = fails_before_first test cs k d (grind (arith, nat_tests))

pub place_of : (test : Cluster → Bool) (xs hs cs : List Cluster) (r o : Option ℕ) → r ≡ position test xs → r ≡ o → xs ≡ hs → hs ≡ cs → position test cs ≡ o
place_of test xs hs cs r o found is first same = ap (position test) (sym (first ∙ same)) ∙ sym found ∙ is

due_as-some : (now id : ℕ) (o : Option Cluster) → IsSome (due_as now id o) → due_as now id o ≡ Some id
due_as-some now id None h = absurd cc
due_as-some now id (Some c) h = pick (is_due c now) h
  where
    pick : (b : Bool) → IsSome (if b then Some id else None) → (if b then Some id else None) ≡ Some id
    pick true h = refl
    pick false h = absurd cc

due_at-some : (now : ℕ) (cs : List Cluster) (o : Option ℕ) (id : ℕ) → o ≡ Some id → IsSome (due_at now cs o) → due_at now cs o ≡ Some id
due_at-some now cs None id is h = absurd cc
due_at-some now cs (Some k) id is h = due_as-some now k (slice_get cs k) h ∙ is

-- the cluster that is due is the current one
pub due-current : (cs : List Cluster) (now id : ℕ) → current cs ≡ Some id → IsSome (due cs now) → due cs now ≡ Some id
due-current cs now id is h = due_at-some now cs (current cs) id is h
