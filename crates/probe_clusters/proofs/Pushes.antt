-- What one more deed does to the clusters.
use Rattle.std.proofs.Common.{◌≡◌, ℕ, ℤ, suc, zero, ◌+◌, ◌<◌, ◌≤◌, ◌==◌, min, max, Bool, true, false, ◌||◌, if◌then◌else◌, List, [], ◌∷◌, ◌++◌, length, sum, All, slice_get, Option, Some, None, unwrap_or, refl, sym, ap, subst, ◌∙◌, zero-add, arith, append_assoc, append-nil}
use Rattle.std.specs.Int.{int_max}
use Rattle.std.proofs.lemmas.List.{length_push}
use Rattle.std.specs.List.{list_any}
use Rattle.std.proofs.lemmas.List.Elements.{All-push, All-head, All-tail, All-weaker}
use Rattle.std.proofs.lemmas.List.Sums.{sum_by-append, fold-append}
use Rattle.std.proofs.lemmas.List.Folds.{list_any-append}
use Rattle.std.proofs.lemmas.Bool.Decides.{nat_tests}
use Rattle.gcc_units.proofs.Walk.{flat_map-push}
use Rattle.gcc_units.specs.declared.shared_types.Credit.{Credit}
use Rattle.probe_clusters.specs.declared.cluster.Cluster.{Cluster}
use Rattle.probe_clusters.specs.Heard.{heard_of, heard_with, earlier_of, later_of}
use Rattle.probe_clusters.specs.Cluster.{planned, with_packet, with_credit, with_result_taken}
use Rattle.probe_clusters.specs.Clusters.{changed}
use Rattle.probe_clusters.specs.Deeds.{Deed, Plan, Send, Note, Take, rate_by, rates, size_by, sizes, moment_by, moments, names, credit_by, credits, takes, cluster_of, clusters_from, NamesBelow, NamedBelow, StandsFor}

-- ---- the sums of a cluster with one more deed

sum-push : (xs : List ℕ) (x : ℕ) → sum (xs ++ x ∷ []) ≡ sum xs + x
sum-push xs x = fold-append (λ (a : ℕ) (y : ℕ). a + y) 0 xs (x ∷ [])

first-push : (xs : List ℕ) (x : ℕ) → slice_get (xs ++ x ∷ []) 0 ≡ Some (unwrap_or (slice_get xs 0) x)
first-push [] x = refl
first-push (y ∷ xs) x = refl

heard_of-push : (cs : List Credit) (c : Credit) → heard_of (cs ++ c ∷ []) ≡ Some (heard_with (heard_of cs) c)
heard_of-push [] c = rw zero-add refl
heard_of-push (d ∷ cs) c =
    rw (
      length_push (d ∷ cs) c,
      sum_by-append (λ (x : Credit). x.size) (d ∷ cs) (c ∷ []),
      fold-append (λ (m : ℕ) (x : Credit). min m x.sent_at) d.sent_at cs (c ∷ []),
      fold-append (λ (m : ℕ) (x : Credit). max m x.sent_at) d.sent_at cs (c ∷ []),
      fold-append (λ (a : ℤ) (x : Credit). int_max a x.arrival) d.arrival cs (c ∷ []),
      fold-append earlier_of d cs (c ∷ []),
      fold-append later_of d cs (c ∷ []),
      zero-add c.size,
    ) refl

or_false : (b : Bool) → (b || false) ≡ b
or_false true = refl
or_false false = refl

list_any-push : (test : Deed → Bool) (ds : List Deed) (d : Deed) → list_any test (ds ++ d ∷ []) ≡ (list_any test ds || test d)
list_any-push test ds d = list_any-append test ds (d ∷ []) ∙ ap (λ b. list_any test ds || b) (or_false (test d))

credits-cons : (first more one : Bool) (before these later : List Credit)
    → (if first then [] else before ++ (these ++ (if more || one then [] else later))) ≡ (if first then [] else before ++ these) ++ (if (first || more) || one then [] else later)
credits-cons true more one before these later = refl
credits-cons false more one before these later = sym (append_assoc before these (if more || one then [] else later))

-- a credit that comes after the taking counts for nothing
credits-push : (k : ℕ) (ds : List Deed) (d : Deed) → credits k (ds ++ d ∷ []) ≡ credits k ds ++ (if list_any (takes k) ds || takes k d then [] else credit_by k d)
credits-push k [] d = ap (λ (cs : List Credit). if takes k d then [] else cs) (append-nil (credit_by k d))
credits-push k (e ∷ ds) d =
    ap (λ (cs : List Credit). if takes k e then [] else credit_by k e ++ cs) (credits-push k ds d)
    ∙ credits-cons (takes k e) (list_any (takes k) ds) (takes k d) (credit_by k e) (credits k ds) (credit_by k d)

-- ---- one cluster

-- the cluster with these sums
abbrev made : ℕ → List ℕ → List ℕ → List Credit → Bool → Cluster
made rate sizes moments credits taken = record {
  rate = rate;
  packets = length sizes;
  bytes = sum sizes;
  first_sent = slice_get moments 0;
  heard = heard_of credits;
  taken = taken;
}

spread : (ds : List Deed) (d : Deed) (k rate : ℕ)
    → cluster_of (ds ++ d ∷ []) k rate ≡ made rate (sizes k ds ++ size_by k d) (moments k ds ++ moment_by k d)
    (credits k ds ++ (if list_any (takes k) ds || takes k d then [] else credit_by k d)) (list_any (takes k) ds || takes k d)
spread ds d k rate = rw (flat_map-push (size_by k) ds d, flat_map-push (moment_by k) ds d, credits-push k ds d, list_any-push (takes k) ds d) refl

made-same : (rate : ℕ) (sizes moments : List ℕ) (credits : List Credit) (taken : Bool)
    → made rate (sizes ++ []) (moments ++ []) (credits ++ (if taken || false then [] else [])) (taken || false) ≡ made rate sizes moments credits taken
made-same rate sizes moments credits true = rw (append-nil sizes, append-nil moments, append-nil credits) refl
made-same rate sizes moments credits false = rw (append-nil sizes, append-nil moments, append-nil credits) refl

made-sent : (rate : ℕ) (sizes moments : List ℕ) (credits : List Credit) (taken : Bool) (size moment : ℕ) (named : Bool)
    → made rate (sizes ++ (if named then size ∷ [] else [])) (moments ++ (if named then moment ∷ [] else [])) (credits ++ (if taken || false then [] else [])) (taken || false)
    ≡ (if named then with_packet size moment (made rate sizes moments credits taken) else made rate sizes moments credits taken)
made-sent rate sizes moments credits true size moment true = rw (length_push sizes size, sum-push sizes size, first-push moments moment, append-nil credits) refl
made-sent rate sizes moments credits false size moment true = rw (length_push sizes size, sum-push sizes size, first-push moments moment, append-nil credits) refl
made-sent rate sizes moments credits taken size moment false = made-same rate sizes moments credits taken

made-noted : (rate : ℕ) (sizes moments : List ℕ) (credits : List Credit) (taken : Bool) (credit : Credit) (named : Bool)
    → made rate (sizes ++ []) (moments ++ []) (credits ++ (if taken || false then [] else (if named then credit ∷ [] else []))) (taken || false)
    ≡ (if named then with_credit credit (made rate sizes moments credits taken) else made rate sizes moments credits taken)
made-noted rate sizes moments credits true credit true = made-same rate sizes moments credits true
made-noted rate sizes moments credits false credit true = rw (append-nil sizes, append-nil moments, heard_of-push credits credit) refl
made-noted rate sizes moments credits true credit false = made-same rate sizes moments credits true
made-noted rate sizes moments credits false credit false = made-same rate sizes moments credits false

made-taken : (rate : ℕ) (sizes moments : List ℕ) (credits : List Credit) (taken named : Bool)
    → made rate (sizes ++ []) (moments ++ []) (credits ++ (if taken || named then [] else [])) (taken || named)
    ≡ (if named then with_result_taken (made rate sizes moments credits taken) else made rate sizes moments credits taken)
made-taken rate sizes moments credits true true = made-same rate sizes moments credits true
made-taken rate sizes moments credits false true = rw (append-nil sizes, append-nil moments, append-nil credits) refl
made-taken rate sizes moments credits true false = made-same rate sizes moments credits true
made-taken rate sizes moments credits false false = made-same rate sizes moments credits false

planned-at : (ds : List Deed) (r k rate : ℕ) → cluster_of (ds ++ Plan r ∷ []) k rate ≡ cluster_of ds k rate
planned-at ds r k rate = spread ds (Plan r) k rate ∙ made-same rate (sizes k ds) (moments k ds) (credits k ds) (list_any (takes k) ds)

-- what a deed does to the one cluster that it names, if it names one
sent-at : (ds : List Deed) (id size moment k rate : ℕ) → cluster_of (ds ++ Send id size moment ∷ []) k rate
    ≡ (if id == k then with_packet size moment (cluster_of ds k rate) else cluster_of ds k rate)
sent-at ds id size moment k rate =
    spread ds (Send id size moment) k rate ∙ made-sent rate (sizes k ds) (moments k ds) (credits k ds) (list_any (takes k) ds) size moment (id == k)

noted-at : (ds : List Deed) (credit : Credit) (k rate : ℕ) → cluster_of (ds ++ Note credit ∷ []) k rate
    ≡ (if names k credit.cluster then with_credit credit (cluster_of ds k rate) else cluster_of ds k rate)
noted-at ds credit k rate =
    spread ds (Note credit) k rate ∙ made-noted rate (sizes k ds) (moments k ds) (credits k ds) (list_any (takes k) ds) credit (names k credit.cluster)

taken-at : (ds : List Deed) (id k rate : ℕ) → cluster_of (ds ++ Take id ∷ []) k rate
    ≡ (if id == k then with_result_taken (cluster_of ds k rate) else cluster_of ds k rate)
taken-at ds id k rate =
    spread ds (Take id) k rate ∙ made-taken rate (sizes k ds) (moments k ds) (credits k ds) (list_any (takes k) ds) (id == k)

-- ---- all of them

if_true : {A : Type 0} (b : Bool) (x y : A) → b ≡ true → (if b then x else y) ≡ x
if_true true x y h = refl
if_true false x y h = cc

if_false : {A : Type 0} (b : Bool) (x y : A) → b ≡ false → (if b then x else y) ≡ y
if_false true x y h = cc
if_false false x y h = refl

is-same : (m n : ℕ) → m ≡ n → (m == n) ≡ true
is-same m n h = grind (arith, nat_tests)

is-other : (m n : ℕ) → m < n → (m == n) ≡ false
is-other m n h = grind (arith, nat_tests)

is-not : (m n : ℕ) → n < m → (m == n) ≡ false
is-not m n h = grind (arith, nat_tests)

-- the same clusters
clusters-alike : (ds es : List Deed) → ((k rate : ℕ) → cluster_of es k rate ≡ cluster_of ds k rate) → (n : ℕ) (rs : List ℕ) → clusters_from es n rs ≡ clusters_from ds n rs
clusters-alike ds es at n [] = refl
clusters-alike ds es at n (r ∷ rs) =
    ap (λ (c : Cluster). c ∷ clusters_from es (n + 1) rs) (at n r) ∙ ap (λ (cs : List Cluster). cluster_of ds n r ∷ cs) (clusters-alike ds es at (n + 1) rs)

-- behind the one that a deed names
clusters-behind : (f : Cluster → Cluster) (id : ℕ) (ds es : List Deed) → ((k rate : ℕ) → cluster_of es k rate ≡ (if id == k then f (cluster_of ds k rate) else cluster_of ds k rate))
    → (n : ℕ) (rs : List ℕ) → id < n → clusters_from es n rs ≡ clusters_from ds n rs
clusters-behind f id ds es at n [] past = refl
clusters-behind f id ds es at n (r ∷ rs) past =
    ap (λ (c : Cluster). c ∷ clusters_from es (n + 1) rs) (at n r ∙ if_false (id == n) (f (cluster_of ds n r)) (cluster_of ds n r) (is-other id n past))
    ∙ ap (λ (cs : List Cluster). cluster_of ds n r ∷ cs) (clusters-behind f id ds es at (n + 1) rs (omega arith))

-- the one that a deed names is changed, and no other
clusters-changed : (f : Cluster → Cluster) (id : ℕ) (ds es : List Deed) → ((k rate : ℕ) → cluster_of es k rate ≡ (if id == k then f (cluster_of ds k rate) else cluster_of ds k rate))
    → (n place : ℕ) (rs : List ℕ) → id ≡ n + place → clusters_from es n rs ≡ changed f place (clusters_from ds n rs)
clusters-changed f id ds es at n place [] is = refl
clusters-changed f id ds es at n zero (r ∷ rs) is =
    ap (λ (c : Cluster). c ∷ clusters_from es (n + 1) rs) (at n r ∙ if_true (id == n) (f (cluster_of ds n r)) (cluster_of ds n r) (is-same id n (omega arith)))
    ∙ ap (λ (cs : List Cluster). f (cluster_of ds n r) ∷ cs) (clusters-behind f id ds es at (n + 1) rs (omega arith))
clusters-changed f id ds es at n (suc place) (r ∷ rs) is =
    ap (λ (c : Cluster). c ∷ clusters_from es (n + 1) rs) (at n r ∙ if_false (id == n) (f (cluster_of ds n r)) (cluster_of ds n r) (is-not id n (omega arith)))
    ∙ ap (λ (cs : List Cluster). cluster_of ds n r ∷ cs) (clusters-changed f id ds es at (n + 1) place rs (omega arith))

clusters-append : (ds : List Deed) (n : ℕ) (rs : List ℕ) (r : ℕ) → clusters_from ds n (rs ++ r ∷ []) ≡ clusters_from ds n rs ++ cluster_of ds (n + length rs) r ∷ []
clusters-append ds n [] r = ap (λ (k : ℕ). cluster_of ds k r ∷ []) (omega arith)
clusters-append ds n (s ∷ rs) r =
    ap (λ (cs : List Cluster). cluster_of ds n s ∷ cs)
    (clusters-append ds (n + 1) rs r ∙ ap (λ (k : ℕ). clusters_from ds (n + 1) rs ++ cluster_of ds k r ∷ []) (omega arith))

-- ---- what the value stands for

rates-same : (ds : List Deed) (d : Deed) → rate_by d ≡ [] → rates (ds ++ d ∷ []) ≡ rates ds
rates-same ds d none = flat_map-push rate_by ds d ∙ ap (λ (rs : List ℕ). rates ds ++ rs) none ∙ append-nil (rates ds)

known-push : (ds : List Deed) (d : Deed) → rate_by d ≡ [] → All (NamesBelow (length (rates ds))) ds → NamesBelow (length (rates ds)) d → All (NamesBelow (length (rates (ds ++ d ∷ [])))) (ds ++ d ∷ [])
known-push ds d none known this = rw (rates-same ds d none) (All-push (NamesBelow (length (rates ds))) ds d known this)

length-clusters : (ds : List Deed) (n : ℕ) (rs : List ℕ) → length (clusters_from ds n rs) ≡ length rs
length-clusters ds n [] = refl
length-clusters ds n (r ∷ rs) = ap suc (length-clusters ds (n + 1) rs)

-- a deed that plans nothing
stands-changed : (f : Cluster → Cluster) (id : ℕ) (cs : List Cluster) (ds : List Deed) (d : Deed)
    → ((k rate : ℕ) → cluster_of (ds ++ d ∷ []) k rate ≡ (if id == k then f (cluster_of ds k rate) else cluster_of ds k rate))
    → rate_by d ≡ [] → NamesBelow (length (rates ds)) d → StandsFor cs ds → StandsFor (changed f id cs) (ds ++ d ∷ [])
stands-changed f id cs ds d at none this h = record {
  are = ap (changed f id) h.are ∙ sym (clusters-changed f id ds (ds ++ d ∷ []) at 0 id (rates ds) (omega arith)) ∙ ap (clusters_from (ds ++ d ∷ []) 0) (sym (rates-same ds d none));
  known = known-push ds d none h.known this;
}

named-planned : (cs : List Cluster) (ds : List Deed) (id : ℕ) → StandsFor cs ds → id < length cs → id < length (rates ds)
named-planned cs ds id h l = omega (arith, ap (length {A = Cluster}) h.are, length-clusters ds 0 (rates ds))

pub stands-sent : (cs : List Cluster) (ds : List Deed) (id size moment : ℕ) → id < length cs → StandsFor cs ds → StandsFor (changed (with_packet size moment) id cs) (ds ++ Send id size moment ∷ [])
stands-sent cs ds id size moment l h =
    stands-changed (with_packet size moment) id cs ds (Send id size moment) (sent-at ds id size moment) refl (named-planned cs ds id h l) h

pub stands-taken : (cs : List Cluster) (ds : List Deed) (id : ℕ) → id < length cs → StandsFor cs ds → StandsFor (changed with_result_taken id cs) (ds ++ Take id ∷ [])
stands-taken cs ds id l h = stands-changed with_result_taken id cs ds (Take id) (taken-at ds id) refl (named-planned cs ds id h l) h

pub stands-noted : (cs : List Cluster) (ds : List Deed) (credit : Credit) (id : ℕ) → credit.cluster ≡ Some id → id < length cs → StandsFor cs ds → StandsFor (changed (with_credit credit) id cs) (ds ++ Note credit ∷ [])
stands-noted cs ds credit id is l h =
    stands-changed (with_credit credit) id cs ds (Note credit)
    (λ k rate. noted-at ds credit k rate ∙ ap (λ (o : Option ℕ). if names k o then with_credit credit (cluster_of ds k rate) else cluster_of ds k rate) is)
    refl (subst (NamedBelow (length (rates ds))) (sym is) (named-planned cs ds id h l)) h

pub stands-unnoted : (cs : List Cluster) (ds : List Deed) (credit : Credit) → credit.cluster ≡ None → StandsFor cs ds → StandsFor cs (ds ++ Note credit ∷ [])
stands-unnoted cs ds credit is h = record {
  are = h.are ∙ sym (clusters-alike ds (ds ++ Note credit ∷ [])
      (λ k rate. noted-at ds credit k rate ∙ ap (λ (o : Option ℕ). if names k o then with_credit credit (cluster_of ds k rate) else cluster_of ds k rate) is) 0 (rates ds))
      ∙ ap (clusters_from (ds ++ Note credit ∷ []) 0) (sym (rates-same ds (Note credit) refl));
  known = known-push ds (Note credit) refl h.known (subst (NamedBelow (length (rates ds))) (sym is) tt);
}

-- ---- a cluster that no deed names yet

NamesBelow-more : (m n : ℕ) → m ≤ n → (d : Deed) → NamesBelow m d → NamesBelow n d
NamesBelow-more m n le (Plan rate) h = tt
NamesBelow-more m n le (Send id size moment) h = omega arith
NamesBelow-more m n le (Note credit) h = more credit.cluster h
  where
    more : (o : Option ℕ) → NamedBelow m o → NamedBelow n o
    more None h = tt
    more (Some id) h = omega arith
NamesBelow-more m n le (Take id) h = omega arith

record UnnamedBy (k : ℕ) (d : Deed) : Type 0 where
  sizes : size_by k d ≡ []
  moments : moment_by k d ≡ []
  credits : credit_by k d ≡ []
  taken : takes k d ≡ false

unnamed_by : (k : ℕ) (d : Deed) → NamesBelow k d → UnnamedBy k d
unnamed_by k (Plan rate) h = record { sizes = refl; moments = refl; credits = refl; taken = refl }
unnamed_by k (Send id size moment) h = record { sizes = rw (is-other id k h) refl; moments = rw (is-other id k h) refl; credits = refl; taken = refl }
unnamed_by k (Note credit) h = record { sizes = refl; moments = refl; credits = if_false (names k credit.cluster) (credit ∷ []) [] (none credit.cluster h); taken = refl }
  where
    none : (o : Option ℕ) → NamedBelow k o → names k o ≡ false
    none None h = refl
    none (Some id) h = is-other id k h
unnamed_by k (Take id) h = record { sizes = refl; moments = refl; credits = refl; taken = is-other id k h }

record Unnamed (k : ℕ) (ds : List Deed) : Type 0 where
  no_sizes : sizes k ds ≡ []
  no_moments : moments k ds ≡ []
  no_credits : credits k ds ≡ []
  not_taken : list_any (takes k) ds ≡ false

unnamed : (k : ℕ) (ds : List Deed) → All (NamesBelow k) ds → Unnamed k ds
unnamed k [] known = record { no_sizes = refl; no_moments = refl; no_credits = refl; not_taken = refl }
unnamed k (d ∷ ds) known =
    let one : UnnamedBy k d = unnamed_by k d (All-head (NamesBelow k) d ds known) in
    let rest : Unnamed k ds = unnamed k ds (All-tail (NamesBelow k) d ds known) in
    record {
      no_sizes = rw one.sizes rest.no_sizes;
      no_moments = rw one.moments rest.no_moments;
      no_credits = rw (one.taken, one.credits) rest.no_credits;
      not_taken = rw one.taken rest.not_taken;
    }

cluster_of-unnamed : (ds : List Deed) (k rate : ℕ) → Unnamed k ds → cluster_of ds k rate ≡ planned rate
cluster_of-unnamed ds k rate h = rw (h.no_sizes, h.no_moments, h.no_credits, h.not_taken) refl

pub stands-planned : (cs : List Cluster) (ds : List Deed) (rate : ℕ) → StandsFor cs ds → StandsFor (cs ++ planned rate ∷ []) (ds ++ Plan rate ∷ [])
stands-planned cs ds rate h =
    let es : List Deed = ds ++ Plan rate ∷ [] in
    let more : rates es ≡ rates ds ++ rate ∷ [] = flat_map-push rate_by ds (Plan rate) in
    let new : cluster_of es (0 + length (rates ds)) rate ≡ planned rate =
    planned-at ds rate (0 + length (rates ds)) rate ∙ ap (λ (k : ℕ). cluster_of ds k rate) (zero-add (length (rates ds)))
    ∙ cluster_of-unnamed ds (length (rates ds)) rate (unnamed (length (rates ds)) ds h.known) in
    let longer : length (rates ds) ≤ length (rates es) = omega (arith, ap (length {A = ℕ}) more, length_push (rates ds) rate) in
    record {
      are = ap (λ (bs : List Cluster). bs ++ planned rate ∷ []) (h.are ∙ sym (clusters-alike ds es (planned-at ds rate) 0 (rates ds)))
          ∙ ap (λ (c : Cluster). clusters_from es 0 (rates ds) ++ c ∷ []) (sym new)
          ∙ sym (clusters-append es 0 (rates ds) rate) ∙ ap (clusters_from es 0) (sym more);
      known = All-push (NamesBelow (length (rates es))) ds (Plan rate)
          (All-weaker (NamesBelow (length (rates ds))) (NamesBelow (length (rates es))) (NamesBelow-more (length (rates ds)) (length (rates es)) longer) ds h.known) tt;
    }

-- no deed leaves no cluster
pub stands-none : StandsFor [] []
stands-none = record { are = refl; known = λ k d l. absurd (omega arith) }
