-- Few deeds leave small sums.
use Rattle.std.proofs.Common.{◌≡◌, ℕ, suc, zero, ◌+◌, ◌*◌, ◌≤◌, ◌==◌, Bool, true, false, if◌then◌else◌, List, [], ◌∷◌, ◌++◌, length, sum, sum_by, count_by, All, slice_get, Some, sym, ap, subst, ◌∙◌, zero-add, arith}
use Rattle.std.specs.Option.{ForSome}
use Rattle.std.proofs.lemmas.List.Elements.{All-head, All-tail, All-push}
use Rattle.std.proofs.lemmas.List.Sums.{sum_by-append, sum_by-cons}
use Rattle.gcc_units.specs.declared.shared_types.Credit.{Credit}
use Rattle.gcc_units.specs.declared.limits.TheConstants.{MOST_PACKETS, GREATEST_PACKET}
use Rattle.probe_clusters.specs.declared.cluster.Cluster.{Cluster}
use Rattle.probe_clusters.specs.declared.heard.Heard.{Heard}
use Rattle.probe_clusters.specs.Heard.{heard_of}
use Rattle.probe_clusters.specs.Cluster.{IsHeardSmall, IsSmall}
use Rattle.probe_clusters.specs.Deeds.{Deed, Plan, Send, Note, Take, rates, size_by, sizes, names, credit_by, credits, takes, cluster_of, clusters_from, StandsFor, is_send, is_note, IsSizeWithin, IsWithin, ReachedBy}

abbrev credit_bytes : List Credit → ℕ
credit_bytes cs = sum_by (λ (c : Credit). c.size) cs

-- so many, and so many bytes
record Few (most count bytes : ℕ) : Type 0 where
  few : count ≤ most
  small : bytes ≤ GREATEST_PACKET * most

few_sizes-more : (size : ℕ) (named : Bool) (ss : List ℕ) (most : ℕ) → size ≤ GREATEST_PACKET → Few most (length ss) (sum ss)
    → Few (1 + most) (length ((if named then size ∷ [] else []) ++ ss)) (sum ((if named then size ∷ [] else []) ++ ss))
few_sizes-more size true ss most within h =
    record { few = omega (arith, h.few); small = omega (arith, h.small, sum_by-cons (λ (x : ℕ). x) size ss) }
few_sizes-more size false ss most within h = record { few = omega (arith, h.few); small = omega (arith, h.small) }

few_sizes : (k : ℕ) (ds : List Deed) → All IsSizeWithin ds → Few (count_by is_send ds) (length (sizes k ds)) (sum (sizes k ds))
few_sizes k [] within = record { few = omega arith; small = omega arith }
few_sizes k (d ∷ ds) within =
    rw (sum_by-cons (λ (e : Deed). if is_send e then 1 else 0) d ds) (by_deed d (All-head IsSizeWithin d ds within) (few_sizes k ds (All-tail IsSizeWithin d ds within)))
  where
    by_deed : (d : Deed) → IsSizeWithin d → Few (count_by is_send ds) (length (sizes k ds)) (sum (sizes k ds))
        → Few ((if is_send d then 1 else 0) + count_by is_send ds) (length (size_by k d ++ sizes k ds)) (sum (size_by k d ++ sizes k ds))
    by_deed (Plan rate) w h = record { few = omega (arith, h.few); small = omega (arith, h.small) }
    by_deed (Send id size moment) w h = few_sizes-more size (id == k) (sizes k ds) (count_by is_send ds) w h
    by_deed (Note credit) w h = record { few = omega (arith, h.few); small = omega (arith, h.small) }
    by_deed (Take id) w h = record { few = omega (arith, h.few); small = omega (arith, h.small) }

few_credits-more : (credit : Credit) (named : Bool) (cs : List Credit) (most : ℕ) → credit.size ≤ GREATEST_PACKET → Few most (length cs) (credit_bytes cs)
    → Few (1 + most) (length ((if named then credit ∷ [] else []) ++ cs)) (credit_bytes ((if named then credit ∷ [] else []) ++ cs))
few_credits-more credit true cs most within h =
    record { few = omega (arith, h.few); small = omega (arith, h.small, sum_by-cons (λ (c : Credit). c.size) credit cs) }
few_credits-more credit false cs most within h = record { few = omega (arith, h.few); small = omega (arith, h.small) }

few_credits-taken : (taken : Bool) (cs : List Credit) (most : ℕ) → Few most (length cs) (credit_bytes cs)
    → Few most (length (if taken then [] else cs)) (credit_bytes (if taken then [] else cs))
few_credits-taken true cs most h = record { few = omega arith; small = omega arith }
few_credits-taken false cs most h = h

few_credits : (k : ℕ) (ds : List Deed) → All IsSizeWithin ds → Few (count_by is_note ds) (length (credits k ds)) (credit_bytes (credits k ds))
few_credits k [] within = record { few = omega arith; small = omega arith }
few_credits k (d ∷ ds) within =
    rw (sum_by-cons (λ (e : Deed). if is_note e then 1 else 0) d ds)
    (few_credits-taken (takes k d) (credit_by k d ++ credits k ds) _ (by_deed d (All-head IsSizeWithin d ds within) (few_credits k ds (All-tail IsSizeWithin d ds within))))
  where
    by_deed : (d : Deed) → IsSizeWithin d → Few (count_by is_note ds) (length (credits k ds)) (credit_bytes (credits k ds))
        → Few ((if is_note d then 1 else 0) + count_by is_note ds) (length (credit_by k d ++ credits k ds)) (credit_bytes (credit_by k d ++ credits k ds))
    by_deed (Plan rate) w h = record { few = omega (arith, h.few); small = omega (arith, h.small) }
    by_deed (Send id size moment) w h = record { few = omega (arith, h.few); small = omega (arith, h.small) }
    by_deed (Note credit) w h = few_credits-more credit (names k credit.cluster) (credits k ds) (count_by is_note ds) w h
    by_deed (Take id) w h = record { few = omega (arith, h.few); small = omega (arith, h.small) }

small_heard : (cs : List Credit) (most : ℕ) → most ≤ MOST_PACKETS → Few most (length cs) (credit_bytes cs) → ForSome (heard_of cs) IsHeardSmall
small_heard [] most within h = λ x is. absurd cc
small_heard (c ∷ cs) most within h = λ x is. unwrapped _ x is (record { count = omega (arith, h.few); bytes = omega (arith, h.small) })
  where
    unwrapped : (h x : Heard) → Some h ≡ Some x → IsHeardSmall h → IsHeardSmall x
    unwrapped h x is small = let same : h ≡ x = cc in subst IsHeardSmall same small

small_cluster : (ds : List Deed) (k rate : ℕ) → IsWithin MOST_PACKETS MOST_PACKETS ds → IsSmall (cluster_of ds k rate)
small_cluster ds k rate within =
    let sent : Few (count_by is_send ds) (length (sizes k ds)) (sum (sizes k ds)) = few_sizes k ds within.sizes in
    record {
      packets = omega (arith, sent.few, within.few_sends);
      bytes = omega (arith, sent.small, within.few_sends);
      heard = small_heard (credits k ds) (count_by is_note ds) within.few_credits (few_credits k ds within.sizes);
    }

small_from : (ds : List Deed) (n : ℕ) (rs : List ℕ) (place : ℕ) (c : Cluster) → IsWithin MOST_PACKETS MOST_PACKETS ds → slice_get (clusters_from ds n rs) place ≡ Some c → IsSmall c
small_from ds n [] place c within at = cc
small_from ds n (r ∷ rs) zero c within at = let same : cluster_of ds n r ≡ c = cc in subst IsSmall same (small_cluster ds n r within)
small_from ds n (r ∷ rs) (suc place) c within at = small_from ds (n + 1) rs place c within at

-- each cluster that few deeds leave is small
pub small-at : (cs : List Cluster) (id : ℕ) (c : Cluster) → ReachedBy MOST_PACKETS MOST_PACKETS cs → slice_get cs id ≡ Some c → IsSmall c
small-at cs id c h at =
    small_from h.deeds 0 (rates h.deeds) id c h.within (ap (λ (bs : List Cluster). slice_get bs id) (sym h.stands.are) ∙ at)

-- ---- one deed more

count_by-push : (test : Deed → Bool) (ds : List Deed) (d : Deed) → count_by test (ds ++ d ∷ []) ≡ count_by test ds + (if test d then 1 else 0)
count_by-push test ds d = sum_by-append (λ (e : Deed). if test e then 1 else 0) ds (d ∷ []) ∙ ap (λ (n : ℕ). count_by test ds + n) (zero-add (if test d then 1 else 0))

pub within-push : (sends credits : ℕ) (ds : List Deed) (d : Deed) → IsSizeWithin d → IsWithin sends credits ds
    → IsWithin (sends + (if is_send d then 1 else 0)) (credits + (if is_note d then 1 else 0)) (ds ++ d ∷ [])
within-push sends credits ds d size h = record {
  few_sends = omega (arith, count_by-push is_send ds d, h.few_sends);
  few_credits = omega (arith, count_by-push is_note ds d, h.few_credits);
  sizes = All-push IsSizeWithin ds d h.sizes size;
}

pub reached-more : (sends credits m n : ℕ) (cs : List Cluster) → sends ≤ m → credits ≤ n → ReachedBy sends credits cs → ReachedBy m n cs
reached-more sends credits m n cs less fewer h = record {
  deeds = h.deeds;
  stands = h.stands;
  within = record { few_sends = omega (arith, h.within.few_sends); few_credits = omega (arith, h.within.few_credits); sizes = h.within.sizes };
}

-- the clusters that one deed more leaves
pub reached-push : (sends credits : ℕ) (old new : List Cluster) (d : Deed) → IsSizeWithin d → ((ds : List Deed) → StandsFor old ds → StandsFor new (ds ++ d ∷ []))
    → ReachedBy sends credits old → ReachedBy (sends + (if is_send d then 1 else 0)) (credits + (if is_note d then 1 else 0)) new
reached-push sends credits old new d size stands h = record {
  deeds = h.deeds ++ d ∷ [];
  stands = stands h.deeds h.stands;
  within = within-push sends credits h.deeds d size h.within;
}
