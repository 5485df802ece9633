-- Clusters at the front none of which passes a test.
use Rattle.std.proofs.Common.{◌≡◌, ◌≢◌, ℕ, suc, zero, ◌+◌, ◌<◌, ◌==◌, Bool, true, false, not, if◌then◌else◌, nat_lt, List, [], ◌∷◌, ◌++◌, length, take, drop, length-drop, ◌-◌, count_by, position, slice_set, Option, Some, None, option_map, get_or, refl, sym, ap, ◌∙◌, zero-add, arith, get_or-set_other, get_or-set_same}
use Rattle.std.specs.List.{position_or_len}
use Rattle.std.proofs.lemmas.Bool.Decides.{nat_tests}
use Rattle.std.proofs.lemmas.List.{take_all, length-set, length_push, get_or_append_left}
use Rattle.std.proofs.lemmas.List.Sums.{sum_by-cons}
use Rattle.probe_clusters.specs.declared.cluster.Cluster.{Cluster}
use Rattle.probe_clusters.specs.Cluster.{waits}
use Rattle.probe_clusters.specs.Clusters.{NoneOfFirst, AreOver}
use Rattle.probe_clusters.proofs.Places.{IsFirst}

NoneOfFirst-tail : (test : Cluster → Bool) (n : ℕ) (c : Cluster) (cs : List Cluster) → NoneOfFirst test (suc n) (c ∷ cs) → NoneOfFirst test n cs
NoneOfFirst-tail test n c cs h = record { below = omega (arith, h.below); none = λ k d l. h.none (suc k) d (omega arith) }

shifted : (m n : ℕ) (b : Bool) → nat_lt m n ≡ b → nat_lt (1 + m) (suc n) ≡ b
    → (if nat_lt (1 + m) (suc n) then Some (1 + m) else None) ≡ option_map suc (if nat_lt m n then Some m else None)
shifted m n true e f = rw (e, f) (ap Some (omega arith))
shifted m n false e f = rw (e, f) refl

position-later : (test : Cluster → Bool) (c : Cluster) (cs : List Cluster) → test c ≡ false → position test (c ∷ cs) ≡ option_map suc (position test cs)
position-later test c cs h =
    ap (λ (b : Bool). let m = (if not b then 1 + position_or_len test cs else 0) in if nat_lt m (suc (length cs)) then Some m else None) h
    ∙ shifted (position_or_len test cs) (length cs) (nat_lt (position_or_len test cs) (length cs)) refl (grind (arith, nat_tests))

option_map-add : (n : ℕ) (o : Option ℕ) → option_map suc (option_map (λ k. n + k) o) ≡ option_map (λ k. suc n + k) o
option_map-add n None = refl
option_map-add n (Some k) = ap Some (omega arith)

option_map-none : (o : Option ℕ) → o ≡ option_map (λ k. 0 + k) o
option_map-none None = refl
option_map-none (Some k) = ap Some (omega arith)

position-drop : (test : Cluster → Bool) (n : ℕ) (cs : List Cluster) → NoneOfFirst test n cs → position test cs ≡ option_map (λ k. n + k) (position test (drop n cs))
position-drop test zero cs h = option_map-none (position test cs)
position-drop test (suc n) [] h = absurd (omega (arith, h.below))
position-drop test (suc n) (c ∷ cs) h =
    position-later test c cs (h.none 0 c (omega arith)) ∙ ap (option_map suc) (position-drop test n cs (NoneOfFirst-tail test n c cs h)) ∙ option_map-add n (position test (drop n cs))

count_by-drop : (n : ℕ) (cs : List Cluster) → AreOver n cs → count_by waits cs ≡ count_by waits (drop n cs)
count_by-drop zero cs h = refl
count_by-drop (suc n) [] h = refl
count_by-drop (suc n) (c ∷ cs) h =
    let not_here : waits c ≡ false = h.none 0 c (omega arith) in
    sum_by-cons (λ (d : Cluster). if waits d then 1 else 0) c cs ∙ ap (λ (b : Bool). (if b then 1 else 0) + count_by waits cs) not_here
    ∙ zero-add (count_by waits cs) ∙ count_by-drop n cs (NoneOfFirst-tail waits n c cs h)

written-at : (test : Cluster → Bool) (cs : List Cluster) (id : ℕ) (y : Cluster) (k : ℕ) (d : Cluster) → k < length cs → (k ≡ id → test y ≡ false) → (k ≢ id → test (get_or cs k d) ≡ false)
    → test (get_or (slice_set cs id y) k d) ≡ false
written-at test cs id y k d l here other = by_place (k == id) refl
  where
    by_place : (b : Bool) → (k == id) ≡ b → test (get_or (slice_set cs id y) k d) ≡ false
    by_place true e =
        let same : k ≡ id = grind (arith, nat_tests) in
        ap test (ap (λ (i : ℕ). get_or (slice_set cs i y) k d) (sym same) ∙ get_or-set_same cs k y d l) ∙ here same
    by_place false e =
        let not_same : k ≢ id = grind (arith, nat_tests) in
        ap test (get_or-set_other cs id k y d not_same) ∙ other not_same

-- those behind them
rest-drop : (n : ℕ) (cs : List Cluster) → drop n cs ≡ take (length cs - n) (drop n cs)
rest-drop n cs = sym (take_all (length cs - n) (drop n cs) (omega (arith, length-drop n cs)))

-- the search may begin behind them
pub position-over : (test : Cluster → Bool) (n : ℕ) (cs : List Cluster) → NoneOfFirst test n cs → position test cs ≡ option_map (λ k. n + k) (position test (take (length cs - n) (drop n cs)))
position-over test n cs h = position-drop test n cs h ∙ ap (λ (rest : List Cluster). option_map (λ k. n + k) (position test rest)) (rest-drop n cs)

-- and so may the count
pub count_by-over : (n : ℕ) (cs : List Cluster) → AreOver n cs → count_by waits cs ≡ count_by waits (take (length cs - n) (drop n cs))
count_by-over n cs h = count_by-drop n cs h ∙ ap (count_by waits) (rest-drop n cs)

-- a cluster that does not pass is written back so
pub NoneOfFirst-write : (test : Cluster → Bool) (n : ℕ) (cs : List Cluster) (id : ℕ) (y : Cluster) → NoneOfFirst test n cs → (id < n → test y ≡ false) → NoneOfFirst test n (slice_set cs id y)
NoneOfFirst-write test n cs id y h here = record {
  below = omega (arith, h.below, length-set cs id y);
  none = λ k d l. written-at test cs id y k d (omega (arith, h.below)) (λ same. here (omega arith)) (λ _. h.none k d l);
}

pub NoneOfFirst-push : (test : Cluster → Bool) (n : ℕ) (cs : List Cluster) (y : Cluster) → NoneOfFirst test n cs → NoneOfFirst test n (cs ++ y ∷ [])
NoneOfFirst-push test n cs y h = record {
  below = omega (arith, h.below, length_push cs y);
  none = λ k d l. ap test (get_or_append_left cs (y ∷ []) d k (omega (arith, h.below))) ∙ h.none k d l;
}

-- those before the current one are over, and it too where it no longer waits
pub AreOver-sent : (cs : List Cluster) (id : ℕ) (y : Cluster) → IsFirst waits cs id → AreOver (if waits y then id else id + 1) (slice_set cs id y)
AreOver-sent cs id y one = by_test (waits y) refl
  where
    by_test : (b : Bool) → waits y ≡ b → AreOver (if b then id else id + 1) (slice_set cs id y)
    by_test true e = record {
      below = omega (arith, one.below, length-set cs id y);
      none = λ k d l. written-at waits cs id y k d (omega (arith, one.below)) (λ same. absurd (omega arith)) (λ _. one.earlier k d l);
    }
    by_test false e = record {
      below = omega (arith, one.below, length-set cs id y);
      none = λ k d l. written-at waits cs id y k d (omega (arith, one.below)) (λ _. e) (λ not_same. one.earlier k d (omega arith));
    }
