-- What is known of the ready clusters, once one cluster is written or put at the end.
use Rattle.std.proofs.Common.{◌≡◌, ℕ, suc, zero, ◌+◌, ◌<◌, ◌≤◌, ◌==◌, Bool, true, false, min, if◌then◌else◌, List, [], ◌∷◌, ◌++◌, length, count_by, slice_set, get_or, refl, sym, ap, ◌∙◌, arith}
use Rattle.std.proofs.lemmas.Bool.Decides.{nat_tests}
use Rattle.std.proofs.lemmas.List.{length-set}
use Rattle.std.proofs.lemmas.List.Sums.{sum_by-cons, sum_by-set, sum_by-append}
use Rattle.probe_clusters.specs.declared.cluster.Cluster.{Cluster}
use Rattle.probe_clusters.specs.declared.probes.Readiness.{Readiness}
use Rattle.probe_clusters.specs.Cluster.{is_ready}
use Rattle.probe_clusters.specs.Clusters.{NoneOfFirst, AreReady, first_after}
use Rattle.probe_clusters.proofs.Passed.{NoneOfFirst-write, NoneOfFirst-push}

abbrev pub bit : Bool → ℕ
bit b = if b then 1 else 0

none_counted : (test : Cluster → Bool) (cs : List Cluster) → count_by test cs ≡ 0 → (k : ℕ) (d : Cluster) → k < length cs → test (get_or cs k d) ≡ false
none_counted test [] none k d lt = absurd (omega arith)
none_counted test (c ∷ cs) none zero d lt = by_test (test c) refl
  where
    by_test : (b : Bool) → test c ≡ b → test c ≡ false
    by_test false e = e
    by_test true e = absurd (omega (arith, none, sum_by-cons (λ (x : Cluster). bit (test x)) c cs, ap bit e))
none_counted test (c ∷ cs) none (suc k) d lt =
    none_counted test cs (omega (arith, none, sum_by-cons (λ (x : Cluster). bit (test x)) c cs)) k d (omega arith)

-- the count with one cluster written
pub count-write : (cs : List Cluster) (id : ℕ) (y d : Cluster) → id < length cs
    → count_by is_ready (slice_set cs id y) + bit (is_ready (get_or cs id d)) ≡ count_by is_ready cs + bit (is_ready y)
count-write cs id y d lt = sum_by-set (λ (x : Cluster). bit (is_ready x)) cs id y d lt

-- a cluster that is ready is counted
pub counted-at : (cs : List Cluster) (id : ℕ) (d : Cluster) → id < length cs → bit (is_ready (get_or cs id d)) ≤ count_by is_ready cs
counted-at [] id d lt = absurd (omega arith)
counted-at (c ∷ cs) zero d lt = omega (arith, sum_by-cons (λ (x : Cluster). bit (is_ready x)) c cs)
counted-at (c ∷ cs) (suc id) d lt = omega (arith, sum_by-cons (λ (x : Cluster). bit (is_ready x)) c cs, counted-at cs id d (omega arith))

first-write : (count first id all : ℕ) (cs : List Cluster) (y : Cluster) → NoneOfFirst is_ready first cs → all ≡ length cs
    → count ≡ count_by is_ready (slice_set cs id y) → NoneOfFirst is_ready (first_after count first id (is_ready y) all) (slice_set cs id y)
first-write count first id all cs y h is counted = by_count (count == 0) (is_ready y) refl refl
  where
    by_count : (b r : Bool) → (count == 0) ≡ b → is_ready y ≡ r → NoneOfFirst is_ready (if b then all else (if r then min first id else first)) (slice_set cs id y)
    by_count true r e f =
        let zero_count : count ≡ 0 = grind (arith, nat_tests) in
        record {
          below = omega (arith, is, length-set cs id y);
          none = λ k d lt. none_counted is_ready (slice_set cs id y) (sym counted ∙ zero_count) k d (omega (arith, is, lt, length-set cs id y));
        }
    by_count false true e f =
        let less : NoneOfFirst is_ready (min first id) cs = record { below = omega (arith, h.below); none = λ k d lt. h.none k d (omega arith) } in
        NoneOfFirst-write is_ready (min first id) cs id y less (λ lt. absurd (omega arith))
    by_count false false e f = NoneOfFirst-write is_ready first cs id y h (λ _. f)

-- what is known with one cluster written
pub known-write : (r : Readiness) (cs : List Cluster) (id count all : ℕ) (y : Cluster) → AreReady r cs → all ≡ length cs
    → count ≡ count_by is_ready (slice_set cs id y) → AreReady (record { count = count; first = first_after count r.first id (is_ready y) all }) (slice_set cs id y)
known-write r cs id count all y h is counted =
    record { count = counted; none = first-write count r.first id all cs y h.none is counted }

-- one more that is not ready
pub known-push : (r : Readiness) (cs : List Cluster) (y : Cluster) → AreReady r cs → is_ready y ≡ false → AreReady r (cs ++ y ∷ [])
known-push r cs y h e = record {
  count = omega (arith, h.count, sum_by-append (λ (x : Cluster). bit (is_ready x)) cs (y ∷ []), ap bit e);
  none = NoneOfFirst-push is_ready r.first cs y h.none;
}
