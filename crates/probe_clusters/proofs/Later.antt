-- What no later deed changes.
use Rattle.std.proofs.Common.{◌≡◌, ℕ, ◌*◌, ◌≤◌, Bool, true, false, ◌||◌, if◌then◌else◌, nat_lt, List, [], ◌∷◌, ◌++◌, length, sum, refl, ap, ◌∙◌, arith}
use Rattle.std.specs.List.{list_any}
use Rattle.std.proofs.lemmas.List.{length-append}
use Rattle.std.proofs.lemmas.List.Sums.{sum_by-append}
use Rattle.std.proofs.lemmas.List.Folds.{list_any-append}
use Rattle.std.proofs.lemmas.Grind.{flat_map-append}
use Rattle.std.proofs.lemmas.Bool.Decides.{nat_tests}
use Rattle.gcc_units.specs.declared.shared_types.Credit.{Credit}
use Rattle.probe_clusters.specs.declared.cluster.Cluster.{Cluster}
use Rattle.probe_clusters.specs.declared.TheConstants.{LEAST_PACKETS, LEAST_TIME}
use Rattle.probe_clusters.specs.Heard.{heard_of}
use Rattle.probe_clusters.specs.Cluster.{is_ready}
use Rattle.probe_clusters.specs.Deeds.{Deed, size_by, sizes, credits, credit_by, takes, cluster_of}
use Rattle.probe_clusters.specs.Laws.{TakenOnce, WaitsOnce}
use Rattle.gcc_units.specs.declared.limits.TheConstants.{BYTE}

credits-first : (first : Bool) (before these later : List Credit) (more : Bool) → (first || more) ≡ true → (more ≡ true → later ≡ these)
    → (if first then [] else before ++ later) ≡ (if first then [] else before ++ these)
credits-first true before these later more h same = refl
credits-first false before these later more h same = ap (λ (cs : List Credit). before ++ cs) (same h)

credits-done : (k : ℕ) (ds es : List Deed) → list_any (takes k) ds ≡ true → credits k (ds ++ es) ≡ credits k ds
credits-done k [] es h = absurd cc
credits-done k (d ∷ ds) es h =
    credits-first (takes k d) (credit_by k d) (credits k ds) (credits k (ds ++ es)) (list_any (takes k) ds) h (λ more. credits-done k ds es more)

taken-not_ready : (c : Cluster) → c.taken ≡ true → is_ready c ≡ false
taken-not_ready c h = rw h refl

pub taken_once : TakenOnce
taken_once ds es id rate h = record {
  not_ready = taken-not_ready (cluster_of (ds ++ es) id rate) (list_any-append (takes id) ds es ∙ ap (λ (b : Bool). b || list_any (takes id) es) h);
  heard = ap heard_of (credits-done id ds es h);
}

-- more packets and bytes, at the same rate
waits-less : (rate m n a b : ℕ) → m ≤ n → a ≤ b → (nat_lt m LEAST_PACKETS || nat_lt (BYTE * a) (LEAST_TIME * rate)) ≡ false
    → (nat_lt n LEAST_PACKETS || nat_lt (BYTE * b) (LEAST_TIME * rate)) ≡ false
waits-less rate m n a b packets bytes h = grind (arith, nat_tests)

pub waits_once : WaitsOnce
waits_once ds es id rate h =
    waits-less rate (length (sizes id ds)) (length (sizes id (ds ++ es))) (sum (sizes id ds)) (sum (sizes id (ds ++ es)))
    (rw (flat_map-append (size_by id) ds es, length-append (sizes id ds) (sizes id es)) (omega arith))
    (rw (flat_map-append (size_by id) ds es, sum_by-append (λ (x : ℕ). x) (sizes id ds) (sizes id es)) (omega arith)) h
