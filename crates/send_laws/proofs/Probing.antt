-- The probe packets of a cluster are bounded by its rate.
use Rattle.std.proofs.Common.{◌≡◌, ℕ, suc, zero, ◌+◌, ◌-◌, ◌*◌, ◌≤◌, ◌==◌, Bool, true, false, cond, nat_lt, Result, Ok, Err, Option, None, Some, List, [], ◌∷◌, ◌++◌, length, map, take, sum, All, inl, inr, slice_get, refl, sym, ◌∙◌, ap, subst, append_assoc, arith, length-append, eqb-true}
use Rattle.std.proofs.Math.Seq.{take-append_seam}
use Rattle.std.proofs.lemmas.Bool.{cases_eq, eq-eqb, ne_eqb}
use Rattle.std.proofs.lemmas.Bool.Decides.{nat_tests}
use Rattle.std.proofs.lemmas.List.{append-nil}
use Rattle.std.proofs.lemmas.List.Elements.{All-head, All-tail}
use Rattle.std.proofs.lemmas.List.Sums.{fold-append}
use Rattle.std.proofs.lemmas.Grind.{flat_map-append}
use Rattle.gcc_units.proofs.Walk.{flat_map-push, walk-push}
use Rattle.gcc_units.specs.declared.shared_types.Credit.{Credit}
use Rattle.gcc_units.specs.declared.limits.TheConstants.{GREATEST_MOMENT, MOST_WAITING, MOST_SENDS}
use Rattle.rtp_wire.specs.declared.packet.WireFault.{WireFault}
use Rattle.rtp_wire.specs.Place.{place_of}
use Rattle.twcc_report.specs.declared.fault.ReportFault.{ReportFault}
use Rattle.twcc_report.specs.Spelling.{Feedback}
use Rattle.twcc_report.specs.Reading.{read_of}
use Rattle.probe_clusters.specs.declared.cluster.Cluster.{Cluster}
use Rattle.probe_clusters.specs.declared.probes.Outcome.{Outcome}
use Rattle.probe_clusters.specs.Cluster.{is_due, is_due_from, with_packet}
use Rattle.probe_clusters.specs.Clusters.{changed, changed_where, current, due, due_at, due_as}
use Rattle.probe_clusters.specs.Clusters as probes
use Rattle.probe_clusters.specs.Deeds.{Deed, Plan, Send, Note, Take, rate_by, rates, size_by, sizes, moment_by, moments, cluster_of, clusters_from, clusters, takings}
use Rattle.pacer.specs.declared.sent.Sent.{Sent}
use Rattle.pacer.specs.declared.sent.Kind.{Kind}
use Rattle.pacer.specs.declared.sent.Kind.TheVariants as kind
use Rattle.pacer.specs.declared.course.Terms.{Terms}
use Rattle.pacer.specs.Course.{probe_as, probe_by, probes_of}
use Rattle.pacer.specs.Pace.{Standing, clusters_by, rule, after, then_on, paced}
use Rattle.pacer.proofs.Pace.{paced-zero, paced-suc}
use Rattle.pacer.proofs.Ruled.{IsAllowed, rule-is}
use Rattle.pacer.proofs.Sends.{IsPlanned, IsForPlanned, paced-planned}
use Rattle.send_core.specs.declared.call.Call.{Call}
use Rattle.send_core.specs.declared.call.Call.TheVariants.{Enqueue, Pace, Report, Configure}
use Rattle.send_core.specs.declared.call.Reply.{Reply}
use Rattle.send_core.specs.declared.call.Reply.TheVariants.{Accepted, Refused}
use Rattle.send_core.specs.declared.call.Cause.TheVariants as cause
use Rattle.send_core.specs.declared.call.Entry.{Entry}
use Rattle.send_core.specs.History.{at_of, later, now, accepted, waiting}
use Rattle.send_core.specs.Settings.{fault_of, started, plans}
use Rattle.send_core.specs.Reports.{deeds_by, cluster_deeds}
use Rattle.send_core.specs.Reply.{extension_id, enqueued, reported, configured, standing, terms_at, standing_at, reply_in_time, reply, IsAnswered}
use Rattle.send_laws.specs.Probes.{planned_rate, probe_sizes, probe_moments, before_last, last_of, time_over}
use Rattle.send_laws.proofs.Sending.{answered-reply}
use Rattle.send_laws.proofs.Spanning.{slice_get-longer}

-- ---- lists of sizes and moments

pub before_last-push : (xs : List ℕ) (x : ℕ) → before_last (xs ++ x ∷ []) ≡ sum xs
before_last-push xs x =
    let count : length (xs ++ x ∷ []) - 1 ≡ length xs = omega (arith, length-append xs (x ∷ [])) in
    ap (λ n. sum (take n (xs ++ x ∷ []))) count ∙ ap sum (take-append_seam xs (x ∷ []))

pub last_of-push : (ms : List ℕ) (m : ℕ) → last_of (ms ++ m ∷ []) ≡ m
last_of-push ms m = fold-append (λ (l k : ℕ). k) 0 ms (m ∷ [])

pub sizes-append : (id : ℕ) (ds es : List Deed) → sizes id (ds ++ es) ≡ sizes id ds ++ sizes id es
sizes-append id ds es = flat_map-append (size_by id) ds es

pub moments-append : (id : ℕ) (ds es : List Deed) → moments id (ds ++ es) ≡ moments id ds ++ moments id es
moments-append id ds es = flat_map-append (moment_by id) ds es

pub rates-append : (ds es : List Deed) → rates (ds ++ es) ≡ rates ds ++ rates es
rates-append ds es = flat_map-append rate_by ds es

-- as many sizes as moments
pub as-many : (id : ℕ) (ds : List Deed) → length (sizes id ds) ≡ length (moments id ds)
as-many id [] = refl
as-many id (Plan rate ∷ ds) = as-many id ds
as-many id (Send k size moment ∷ ds) = by_test (k == id) (as-many id ds)
  where
    by_test : (b : Bool) → length (sizes id ds) ≡ length (moments id ds) → length (cond b (size ∷ []) [] ++ sizes id ds) ≡ length (cond b (moment ∷ []) [] ++ moments id ds)
    by_test true more = ap suc more
    by_test false more = more
as-many id (Note credit ∷ ds) = as-many id ds
as-many id (Take k ∷ ds) = as-many id ds

-- ---- one send

-- a cluster is within its rate before its last packet
abbrev IsKept : ℕ → List ℕ → List ℕ → Type 0
IsKept rate packet_sizes packet_moments = 8000000 * before_last packet_sizes ≤ rate * time_over packet_moments

due-kept : (xs ms : List ℕ) (c : Cluster) (size moment : ℕ) → length xs ≡ length ms → c.bytes ≡ sum xs → is_due_from (slice_get ms 0) c moment ≡ true
    → IsKept c.rate (xs ++ size ∷ []) (ms ++ moment ∷ [])
due-kept [] [] c size moment many bytes may = omega arith
due-kept (x ∷ xs) [] c size moment many bytes may = absurd (omega arith)
due-kept xs (first ∷ ms) c size moment many bytes may =
    let within : 8000000 * c.bytes ≤ c.rate * (moment - first) = grind (arith, nat_tests) in
    rw (before_last-push xs size, last_of-push (first ∷ ms) moment) (subst (λ n. 8000000 * n ≤ c.rate * (moment - first)) bytes within)

-- ---- the cluster at its place

record IsAt (id rate : ℕ) (ds : List Deed) (c : Cluster) : Type 0 where
  rate_is : c.rate ≡ rate
  bytes_are : c.bytes ≡ sum (sizes id ds)
  first : c.first_sent ≡ slice_get (moments id ds) 0

-- the cluster with this id is the one that the deeds leave, and its packets are within its rate
record Follows (id rate : ℕ) (ds : List Deed) (cs : List Cluster) : Type 0 where
  found : Cluster
  at : slice_get cs id ≡ Some found
  is : IsAt id rate ds found
  kept : IsKept rate (sizes id ds) (moments id ds)

changed-at : (f : Cluster → Cluster) (k id : ℕ) (cs : List Cluster) (c : Cluster) → slice_get cs id ≡ Some c → slice_get (changed f k cs) id ≡ Some (cond (k == id) (f c) c)
changed-at f k id [] c at = absurd cc
changed-at f zero zero (d ∷ cs) c at = let same : d ≡ c = cc in ap (λ x. Some (f x)) same
changed-at f zero (suc id) (d ∷ cs) c at = let other : (0 == suc id) ≡ false = grind (arith, nat_tests) in rw other at
changed-at f (suc k) zero (d ∷ cs) c at = let other : (suc k == 0) ≡ false = grind (arith, nat_tests) in rw other at
changed-at f (suc k) (suc id) (d ∷ cs) c at = changed-at f k id cs c at ∙ ap (λ b. Some (cond b (f c) c)) (same k id)
  where
    same : (m n : ℕ) → (m == n) ≡ (suc m == suc n)
    same m n = elim (cases_eq m n) [
      | inl is ↦ eq-eqb m n is ∙ sym (eq-eqb (suc m) (suc n) (ap suc is))
      | inr not ↦ ne_eqb m n not ∙ sym (ne_eqb (suc m) (suc n) (λ e. not (omega (arith, e))))
    ]

-- the cluster that is due is the current one, and is there
record IsDueAt (cs : List Cluster) (moment k : ℕ) : Type 0 where
  now_current : current cs ≡ Some k
  found : Cluster
  at : slice_get cs k ≡ Some found
  may : is_due found moment ≡ true

due-is : (cs : List Cluster) (moment k : ℕ) → due cs moment ≡ Some k → IsDueAt cs moment k
due-is cs moment k e = by_current (current cs) refl e
  where
    by_current : (o : Option ℕ) → current cs ≡ o → due_at moment cs o ≡ Some k → IsDueAt cs moment k
    by_current None is e = absurd cc
    by_current (Some j) is e = by_cluster (slice_get cs j) refl e
      where
        by_cluster : (c : Option Cluster) → slice_get cs j ≡ c → due_as moment j c ≡ Some k → IsDueAt cs moment k
        by_cluster None at e = absurd cc
        by_cluster (Some c) at e = by_test (is_due c moment) refl e
          where
            by_test : (b : Bool) → is_due c moment ≡ b → cond b (Some j) None ≡ Some k → IsDueAt cs moment k
            by_test true may e =
                let same : j ≡ k = cc in
                record { now_current = is ∙ ap Some same; found = c; at = ap (slice_get cs) (sym same) ∙ at; may = may }
            by_test false may e = absurd cc

pub first-push : (ms : List ℕ) (m : ℕ) (o : Option ℕ) → o ≡ slice_get ms 0 → (with_packet 0 m (record { rate = 0; packets = 0; bytes = 0; first_sent = o; heard = None; taken = false })).first_sent ≡ slice_get (ms ++ m ∷ []) 0
first-push [] m o is = rw is refl
first-push (x ∷ ms) m o is = rw is refl

pub sum-push : (xs : List ℕ) (x : ℕ) → sum (xs ++ x ∷ []) ≡ sum xs + x
sum-push xs x = fold-append (λ (a y : ℕ). a + y) 0 xs (x ∷ [])

-- one packet more for a cluster that is due
follows-send : (id rate k size moment : ℕ) (ds : List Deed) (cs : List Cluster) → due cs moment ≡ Some k → Follows id rate ds cs
    → Follows id rate (ds ++ Send k size moment ∷ []) (probes.sent size moment cs)
follows-send id rate k size moment ds cs is f =
    let d : IsDueAt cs moment k = due-is cs moment k is in
    subst (λ o. Follows id rate (ds ++ Send k size moment ∷ []) (changed_where (with_packet size moment) o cs)) (sym d.now_current)
    (by_test d (k == id) refl)
  where
    by_test : IsDueAt cs moment k → (b : Bool) → (k == id) ≡ b → Follows id rate (ds ++ Send k size moment ∷ []) (changed (with_packet size moment) k cs)
    by_test d true same =
        let equal : k ≡ id = eqb-true k id same in
        let one : d.found ≡ f.found = cc (ap (slice_get cs) equal, d.at, f.at) in
        let xs : sizes id (ds ++ Send k size moment ∷ []) ≡ sizes id ds ++ size ∷ [] = flat_map-push (size_by id) ds (Send k size moment) ∙ ap (λ b. sizes id ds ++ cond b (size ∷ []) []) same in
        let ms : moments id (ds ++ Send k size moment ∷ []) ≡ moments id ds ++ moment ∷ [] = flat_map-push (moment_by id) ds (Send k size moment) ∙ ap (λ b. moments id ds ++ cond b (moment ∷ []) []) same in
        let may : is_due_from (slice_get (moments id ds) 0) f.found moment ≡ true =
        subst (λ o. is_due_from o f.found moment ≡ true) f.is.first (subst (λ c. is_due c moment ≡ true) one d.may) in
        record {
          found = with_packet size moment f.found;
          at = changed-at (with_packet size moment) k id cs f.found f.at ∙ ap (λ b. Some (cond b (with_packet size moment f.found) f.found)) same;
          is = record {
            rate_is = f.is.rate_is;
            bytes_are = ap (λ n. n + size) f.is.bytes_are ∙ (sym (sum-push (sizes id ds) size) ∙ ap sum (sym xs));
            first = first-push (moments id ds) moment f.found.first_sent f.is.first ∙ ap (λ l. slice_get l 0) (sym ms);
          };
          kept = subst (λ l. IsKept rate l (moments id (ds ++ Send k size moment ∷ []))) (sym xs)
              (subst (IsKept rate (sizes id ds ++ size ∷ [])) (sym ms)
              (subst (λ r. IsKept r (sizes id ds ++ size ∷ []) (moments id ds ++ moment ∷ [])) f.is.rate_is
              (due-kept (sizes id ds) (moments id ds) f.found size moment (as-many id ds) f.is.bytes_are may)));
        }
    by_test d false same =
        let xs : sizes id (ds ++ Send k size moment ∷ []) ≡ sizes id ds =
        flat_map-push (size_by id) ds (Send k size moment) ∙ (ap (λ b. sizes id ds ++ cond b (size ∷ []) []) same ∙ append-nil (sizes id ds)) in
        let ms : moments id (ds ++ Send k size moment ∷ []) ≡ moments id ds =
        flat_map-push (moment_by id) ds (Send k size moment) ∙ (ap (λ b. moments id ds ++ cond b (moment ∷ []) []) same ∙ append-nil (moments id ds)) in
        record {
          found = f.found;
          at = changed-at (with_packet size moment) k id cs f.found f.at ∙ ap (λ b. Some (cond b (with_packet size moment f.found) f.found)) same;
          is = record { rate_is = f.is.rate_is; bytes_are = f.is.bytes_are ∙ ap sum (sym xs); first = f.is.first ∙ ap (λ l. slice_get l 0) (sym ms) };
          kept = subst (λ l. IsKept rate l (moments id (ds ++ Send k size moment ∷ []))) (sym xs) (subst (IsKept rate (sizes id ds)) (sym ms) f.kept);
        }

-- ---- one pace

follows-by : (id rate moment : ℕ) (ds : List Deed) (cs : List Cluster) (k : Kind) (size : ℕ) → (s : Standing) → s.clusters ≡ cs → IsAllowed s (due cs moment) k
    → Follows id rate ds cs → Follows id rate (ds ++ probe_as moment k size) (clusters_by moment cs k size)
follows-by id rate moment ds cs kind.Audio size s same allowed f = subst (λ es. Follows id rate es cs) (sym (append-nil ds)) f
follows-by id rate moment ds cs kind.Media size s same allowed f = subst (λ es. Follows id rate es cs) (sym (append-nil ds)) f
follows-by id rate moment ds cs (kind.Probe k) size s same allowed f = follows-send id rate k size moment ds cs allowed f
follows-by id rate moment ds cs kind.Padding size s same allowed f = subst (λ es. Follows id rate es cs) (sym (append-nil ds)) f

paced-kept : (id rate most : ℕ) (terms : Terms) (s : Standing) (ds : List Deed) → Follows id rate ds s.clusters
    → IsKept rate (sizes id (ds ++ probes_of terms.moment (paced most terms s))) (moments id (ds ++ probes_of terms.moment (paced most terms s)))
paced-kept id rate zero terms s ds f = rw (paced-zero terms s, append-nil ds) f.kept
paced-kept id rate (suc most) terms s ds f =
    rw (paced-suc most terms s) (by_rule (rule terms s) refl (λ r es. paced-kept id rate most terms (after terms s r) es))
  where
    by_rule : (o : Option Sent) → rule terms s ≡ o
        → ((r : Sent) (es : List Deed) → Follows id rate es (after terms s r).clusters
        → IsKept rate (sizes id (es ++ probes_of terms.moment (paced most terms (after terms s r)))) (moments id (es ++ probes_of terms.moment (paced most terms (after terms s r)))))
        → IsKept rate (sizes id (ds ++ probes_of terms.moment (then_on o (λ r. paced most terms (after terms s r)))))
        (moments id (ds ++ probes_of terms.moment (then_on o (λ r. paced most terms (after terms s r)))))
    by_rule None e more = rw (append-nil ds) f.kept
    by_rule (Some r) e more =
        subst (λ es. IsKept rate (sizes id es) (moments id es)) (append_assoc ds (probe_by terms.moment r) (probes_of terms.moment (paced most terms (after terms s r))))
        (more r (ds ++ probe_by terms.moment r) (follows-by id rate terms.moment ds s.clusters r.kind r.size s refl (rule-is terms s r e).allowed f))

-- ---- what was planned

clusters-at : (ds : List Deed) (n : ℕ) (rs : List ℕ) (k rate : ℕ) → slice_get rs k ≡ Some rate → slice_get (clusters_from ds n rs) k ≡ Some (cluster_of ds (n + k) rate)
clusters-at ds n [] k rate at = absurd cc
clusters-at ds n (r ∷ rs) zero rate at =
    let same : r ≡ rate = cc in
    let place : n ≡ n + 0 = omega arith in
    ap (λ x. Some (cluster_of ds n x)) same ∙ ap (λ m. Some (cluster_of ds m rate)) place
clusters-at ds n (r ∷ rs) (suc k) rate at =
    let place : n + 1 + k ≡ n + suc k = omega arith in
    clusters-at ds (n + 1) rs k rate at ∙ ap (λ m. Some (cluster_of ds m rate)) place

follows-start : (id rate : ℕ) (ds : List Deed) → slice_get (rates ds) id ≡ Some rate → IsKept rate (sizes id ds) (moments id ds) → Follows id rate ds (clusters ds)
follows-start id rate ds at kept =
    let place : 0 + id ≡ id = omega arith in
    record {
      found = cluster_of ds id rate;
      at = clusters-at ds 0 (rates ds) id rate at ∙ ap (λ m. Some (cluster_of ds m rate)) place;
      is = record { rate_is = refl; bytes_are = refl; first = refl };
      kept = kept;
    }

length-clusters : (ds : List Deed) (n : ℕ) (rs : List ℕ) → length (clusters_from ds n rs) ≡ length rs
length-clusters ds n [] = refl
length-clusters ds n (r ∷ rs) = ap suc (length-clusters ds (n + 1) rs)

none-past : (xs : List ℕ) (k : ℕ) → slice_get xs k ≡ None → length xs ≤ k
none-past [] k e = omega arith
none-past (x ∷ xs) zero e = absurd cc
none-past (x ∷ xs) (suc k) e = let h : length xs ≤ k = none-past xs k e in omega arith

-- nothing of this cluster
pub record IsNone (id : ℕ) (ds : List Deed) : Type 0 where
  pub no_sizes : sizes id ds ≡ []
  pub no_moments : moments id ds ≡ []

other-probes : (id count moment : ℕ) (rs : List Sent) → count ≤ id → All (IsForPlanned count) rs → IsNone id (probes_of moment rs)
other-probes id count moment [] past all = record { no_sizes = refl; no_moments = refl }
other-probes id count moment (r ∷ rs) past all =
    by_kind r.kind r.size (All-head (IsForPlanned count) r rs all) (other-probes id count moment rs past (All-tail (IsForPlanned count) r rs all))
  where
    by_kind : (k : Kind) (size : ℕ) → IsPlanned count k → IsNone id (probes_of moment rs) → IsNone id (probe_as moment k size ++ probes_of moment rs)
    by_kind kind.Audio size planned more = more
    by_kind kind.Media size planned more = more
    by_kind (kind.Probe k) size planned more =
        let other : (k == id) ≡ false = grind (arith, nat_tests) in
        record { no_sizes = rw other more.no_sizes; no_moments = rw other more.no_moments }
    by_kind kind.Padding size planned more = more

pub no-rates : (moment : ℕ) (rs : List Sent) → rates (probes_of moment rs) ≡ []
no-rates moment [] = refl
no-rates moment (r ∷ rs) = by_kind r.kind r.size (no-rates moment rs)
  where
    by_kind : (k : Kind) (size : ℕ) → rates (probes_of moment rs) ≡ [] → rates (probe_as moment k size ++ probes_of moment rs) ≡ []
    by_kind kind.Audio size more = more
    by_kind kind.Media size more = more
    by_kind (kind.Probe k) size more = more
    by_kind kind.Padding size more = more

-- ---- what is known of a cluster, by whether it was planned

abbrev IsKnown : ℕ → List Deed → Option ℕ → Type 0
IsKnown id ds None = IsNone id ds
IsKnown id ds (Some rate) = IsKept rate (sizes id ds) (moments id ds)

abbrev Knows : ℕ → List Deed → Type 0
Knows id ds = IsKnown id ds (slice_get (rates ds) id)

nothing-none : (id rate : ℕ) (ds : List Deed) → IsNone id ds → IsKept rate (sizes id ds) (moments id ds)
nothing-none id rate ds h = rw (h.no_sizes, h.no_moments) (omega arith)

none-append : (id : ℕ) (ds es : List Deed) → IsNone id ds → IsNone id es → IsNone id (ds ++ es)
none-append id ds es first second = record {
  no_sizes = sizes-append id ds es ∙ rw (first.no_sizes, second.no_sizes) refl;
  no_moments = moments-append id ds es ∙ rw (first.no_moments, second.no_moments) refl;
}

-- deeds that send nothing for it
knows-quiet : (id : ℕ) (ds es : List Deed) → IsNone id es → Knows id ds → Knows id (ds ++ es)
knows-quiet id ds es quiet known = by_planned (slice_get (rates ds) id) refl known
  where
    by_now : (o : Option ℕ) → IsNone id ds → IsKnown id (ds ++ es) o
    by_now None h = none-append id ds es h quiet
    by_now (Some rate) h = nothing-none id rate (ds ++ es) (none-append id ds es h quiet)

    by_planned : (o : Option ℕ) → slice_get (rates ds) id ≡ o → IsKnown id ds o → Knows id (ds ++ es)
    by_planned None is h = by_now (slice_get (rates (ds ++ es)) id) h
    by_planned (Some rate) is h =
        subst (IsKnown id (ds ++ es)) (sym (ap (λ rs. slice_get rs id) (rates-append ds es) ∙ slice_get-longer (rates ds) (rates es) id rate is))
        (subst (λ xs. IsKept rate xs (moments id (ds ++ es))) (sym (sizes-append id ds es ∙ (ap (λ xs. sizes id ds ++ xs) quiet.no_sizes ∙ append-nil (sizes id ds))))
        (subst (IsKept rate (sizes id ds)) (sym (moments-append id ds es ∙ (ap (λ xs. moments id ds ++ xs) quiet.no_moments ∙ append-nil (moments id ds)))) h))

-- the probes of a pace
knows-paced : (id : ℕ) (ds : List Deed) (terms : Terms) (s : Standing) → s.clusters ≡ clusters ds → Knows id ds → Knows id (ds ++ probes_of terms.moment (paced MOST_SENDS terms s))
knows-paced id ds terms s are known = by_planned (slice_get (rates ds) id) refl known
  where
    same : slice_get (rates (ds ++ probes_of terms.moment (paced MOST_SENDS terms s))) id ≡ slice_get (rates ds) id
    same = ap (λ l. slice_get l id) (rates-append ds (probes_of terms.moment (paced MOST_SENDS terms s))
        ∙ (ap (λ l. rates ds ++ l) (no-rates terms.moment (paced MOST_SENDS terms s)) ∙ append-nil (rates ds)))

    by_planned : (o : Option ℕ) → slice_get (rates ds) id ≡ o → IsKnown id ds o → Knows id (ds ++ probes_of terms.moment (paced MOST_SENDS terms s))
    by_planned None is h =
        let past : length s.clusters ≤ id = omega (arith, none-past (rates ds) id is, length-clusters ds 0 (rates ds), ap (length {A = Cluster}) are) in
        subst (IsKnown id (ds ++ probes_of terms.moment (paced MOST_SENDS terms s))) (sym (same ∙ is))
        (none-append id ds (probes_of terms.moment (paced MOST_SENDS terms s)) h
        (other-probes id (length s.clusters) terms.moment (paced MOST_SENDS terms s) past (paced-planned MOST_SENDS terms s)))
    by_planned (Some rate) is h =
        subst (IsKnown id (ds ++ probes_of terms.moment (paced MOST_SENDS terms s))) (sym (same ∙ is))
        (paced-kept id rate MOST_SENDS terms s ds (subst (Follows id rate ds) (sym are) (follows-start id rate ds is h)))

-- ---- one entry

pub no-notes : (id : ℕ) (cs : List Credit) (os : List Outcome) → IsNone id (map Note cs ++ takings os)
no-notes id [] [] = record { no_sizes = refl; no_moments = refl }
no-notes id [] (o ∷ os) = let h : IsNone id (takings os) = no-notes id [] os in record { no_sizes = h.no_sizes; no_moments = h.no_moments }
no-notes id (c ∷ cs) os = let h : IsNone id (map Note cs ++ takings os) = no-notes id cs os in record { no_sizes = h.no_sizes; no_moments = h.no_moments }

pub no-plans : (id : ℕ) (rs : List ℕ) → IsNone id (map Plan rs)
no-plans id [] = record { no_sizes = refl; no_moments = refl }
no-plans id (r ∷ rs) = let h : IsNone id (map Plan rs) = no-plans id rs in record { no_sizes = h.no_sizes; no_moments = h.no_moments }

-- what an entry of this call and reply leaves
abbrev KnowsAfter : ℕ → List Entry → Call → Reply → Type 0
KnowsAfter id h c r = Knows id (cluster_deeds h ++ deeds_by (started h) (cluster_deeds h) c r)

unchanged : (id : ℕ) (h : List Entry) → Knows id (cluster_deeds h) → Knows id (cluster_deeds h ++ [])
unchanged id h known = subst (Knows id) (sym (append-nil (cluster_deeds h))) known

knows-in_time : (id : ℕ) (h : List Entry) (m : ℕ) (c : Call) → Knows id (cluster_deeds h) → KnowsAfter id h c (reply_in_time h m c)
knows-in_time id h m (Enqueue at class wire) known = by_place (place_of (extension_id h) wire.items)
  where
    by_test : (b : Bool) → KnowsAfter id h (Enqueue at class wire) (cond b (Accepted m (length (accepted h))) (Refused m (cause.QueueFull MOST_WAITING)))
    by_test true = unchanged id h known
    by_test false = unchanged id h known

    by_place : (o : Result ℕ WireFault) → KnowsAfter id h (Enqueue at class wire) (enqueued h m o)
    by_place (Err fault) = unchanged id h known
    by_place (Ok place) = by_test (nat_lt (length (waiting h)) MOST_WAITING)
knows-in_time id h m (Pace at) known = knows-paced id (cluster_deeds h) (terms_at h m) (standing_at h m) refl known
knows-in_time id h m (Report at bytes) known = by_read (read_of bytes.items)
  where
    by_read : (o : Result Feedback ReportFault) → KnowsAfter id h (Report at bytes) (reported h m o)
    by_read (Err fault) = unchanged id h known
    by_read (Ok report) = knows-quiet id (cluster_deeds h) (deeds_by (started h) (cluster_deeds h) (Report at bytes) (reported h m (Ok report))) (no-notes id _ _) known
knows-in_time id h m (Configure at change) known = by_check (fault_of (standing h) change)
  where
    by_check : (o : Option ℕ) → KnowsAfter id h (Configure at change) (configured h m change o)
    by_check None = knows-quiet id (cluster_deeds h) (map Plan (plans (started h) change)) (no-plans id (plans (started h) change)) known
    by_check (Some check) = unchanged id h known

knows-by : (id : ℕ) (h : List Entry) (c : Call) → Knows id (cluster_deeds h) → KnowsAfter id h c (reply h c)
knows-by id h c known = by_time (nat_lt GREATEST_MOMENT (at_of c))
  where
    by_time : (b : Bool) → KnowsAfter id h c (cond b (Refused (now h) cause.MomentTooLarge) (reply_in_time h (later (now h) c) c))
    by_time true = unchanged id h known
    by_time false = knows-in_time id h (later (now h) c) c known

-- ---- all entries

pub cluster_deeds-push : (h : List Entry) (e : Entry) → cluster_deeds (h ++ e ∷ []) ≡ cluster_deeds h ++ deeds_by (started h) (cluster_deeds h) e.call e.reply
cluster_deeds-push h e = walk-push (λ before (ds : List Deed) (x : Entry). ds ++ deeds_by (started before) ds x.call x.reply) [] h e

knows-rest : (id : ℕ) (before rest : List Entry) → IsAnswered (before ++ rest) → Knows id (cluster_deeds before) → Knows id (cluster_deeds (before ++ rest))
knows-rest id before [] legal known = subst (λ h. Knows id (cluster_deeds h)) (sym (append-nil before)) known
knows-rest id before (e ∷ rest) legal known =
    subst (λ h. Knows id (cluster_deeds h)) (append_assoc before (e ∷ []) rest)
    (knows-rest id (before ++ e ∷ []) rest (subst IsAnswered (sym (append_assoc before (e ∷ []) rest)) legal)
    (subst (Knows id) (sym (cluster_deeds-push before e)) (subst (KnowsAfter id before e.call) (sym (answered-reply before rest e legal)) (knows-by id before e.call known))))

all-known : (id : ℕ) (h : List Entry) → IsAnswered h → Knows id (cluster_deeds h)
all-known id h legal = knows-rest id [] h legal (record { no_sizes = refl; no_moments = refl })

-- the packets of a cluster are within its rate
pub probes-bounded : (h : List Entry) (id rate : ℕ) → IsAnswered h → planned_rate id h ≡ Some rate
    → 8000000 * before_last (probe_sizes id h) ≤ rate * time_over (probe_moments id h)
probes-bounded h id rate legal is = subst (IsKnown id (cluster_deeds h)) is (all-known id h legal)

-- a cluster that was not planned has none
pub probes-planned : (h : List Entry) (id : ℕ) → IsAnswered h → planned_rate id h ≡ None → probe_sizes id h ≡ []
probes-planned h id legal is = (subst (IsKnown id (cluster_deeds h)) is (all-known id h legal)).no_sizes
