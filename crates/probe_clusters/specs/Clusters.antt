-- Lists of probe clusters; a cluster's id is its place.
use Rattle.std.specs.Prelude.{◌≡◌, ◌<◌, ◌≤◌, length, fold, slice_index_or, ℕ, zero, suc, ◌+◌, Bool, false, ◌==◌, min, if◌then◌else◌, List, [], ◌∷◌, ◌++◌, map, count_by, position, slice_get, option_map, Option, Some, None}
use Rattle.gcc_units.specs.declared.shared_types.Credit.{Credit}
use Rattle.probe_clusters.specs.declared.cluster.Cluster.{Cluster}
use Rattle.probe_clusters.specs.declared.probes.NextProbe.{NextProbe}
use Rattle.probe_clusters.specs.declared.probes.Outcome.{Outcome}
use Rattle.probe_clusters.specs.declared.probes.Readiness.{Readiness}
use Rattle.probe_clusters.specs.Heard.{result_of}
use Rattle.probe_clusters.specs.Cluster.{waits, is_due, is_ready, with_packet, with_credit, with_result_taken}

-- the list with one cluster changed
abbrev pub changed : (Cluster → Cluster) → ℕ → List Cluster → List Cluster
changed f id [] = []
changed f zero (c ∷ cs) = f c ∷ cs
changed f (suc id) (c ∷ cs) = c ∷ changed f id cs

-- the list with one cluster changed, where one is named
abbrev pub changed_where : (Cluster → Cluster) → Option ℕ → List Cluster → List Cluster
changed_where f None cs = cs
changed_where f (Some id) cs = changed f id cs

-- ---- sends

-- the current cluster: the waiting one with the least id
abbrev pub current : List Cluster → Option ℕ
current cs = position waits cs

-- the id, where this cluster is due
abbrev pub due_as : ℕ → ℕ → Option Cluster → Option ℕ
due_as now id None = None
due_as now id (Some c) = if is_due c now then Some id else None

abbrev pub due_at : ℕ → List Cluster → Option ℕ → Option ℕ
due_at now cs None = None
due_at now cs (Some id) = due_as now id (slice_get cs id)

-- none of the first so many passes the test
pub record NoneOfFirst (test : Cluster → Bool) (count : ℕ) (cs : List Cluster) : Type 0 where
  pub below : count ≤ length cs
  pub none : (k : ℕ) (d : Cluster) → k < count → test (slice_index_or cs k d) ≡ false

-- none of the first so many waits
abbrev pub AreOver : ℕ → List Cluster → Type 0
AreOver count cs = NoneOfFirst waits count cs

-- So many are ready, and none of the first so many is.
pub record AreReady (r : Readiness) (cs : List Cluster) : Type 0 where
  pub count : r.count ≡ count_by is_ready cs
  pub none : NoneOfFirst is_ready r.first cs

-- how many at the front are not ready, once a cluster was written that is or is not; all, where none is
abbrev pub first_after : ℕ → ℕ → ℕ → Bool → ℕ → ℕ
first_after count first id is all = if count == 0 then all else (if is then min first id else first)

-- the current cluster, where it is due
abbrev pub due : List Cluster → ℕ → Option ℕ
due cs now = due_at now cs (current cs)

abbrev pub probe_as : ℕ → Option Cluster → Option NextProbe
probe_as id None = None
probe_as id (Some c) = Some (record { id = id; rate = c.rate })

abbrev pub probe_at : List Cluster → Option ℕ → Option NextProbe
probe_at cs None = None
probe_at cs (Some id) = probe_as id (slice_get cs id)

-- the current cluster, with its planned rate
abbrev pub next_probe : List Cluster → Option NextProbe
next_probe cs = probe_at cs (current cs)

-- with one packet more for the current cluster
abbrev pub sent : ℕ → ℕ → List Cluster → List Cluster
sent size now cs = changed_where (with_packet size now) (current cs) cs

-- ---- credits

-- with one credit more for the cluster that it names
abbrev pub noted : Credit → List Cluster → List Cluster
noted credit cs = changed_where (with_credit credit) credit.cluster cs

-- with these credits, one after another
abbrev pub noted_all : List Credit → List Cluster → List Cluster
noted_all credits cs = fold (λ (now : List Cluster) (credit : Credit). noted credit now) cs credits

-- ---- results

-- the result of a cluster by its id
abbrev pub outcome : ℕ → Cluster → Outcome
outcome id c = record { id = id; result = result_of c.heard }

-- the results of those that have one, which gave none yet, in the order of their ids
abbrev pub outcomes_from : ℕ → List Cluster → List Outcome
outcomes_from id [] = []
outcomes_from id (c ∷ cs) = (if is_ready c then outcome id c ∷ [] else []) ++ outcomes_from (id + 1) cs

abbrev pub outcomes : List Cluster → List Outcome
outcomes cs = outcomes_from 0 cs

abbrev pub ready_at : List Cluster → Option ℕ → Option Outcome
ready_at cs None = None
ready_at cs (Some id) = option_map (outcome id) (slice_get cs id)

-- the result of the least cluster that has one and gave none yet
abbrev pub ready : List Cluster → Option Outcome
ready cs = ready_at cs (position is_ready cs)

-- after it was taken
abbrev pub after_ready : List Cluster → List Cluster
after_ready cs = changed_where with_result_taken (position is_ready cs) cs

-- after all that have one were taken
abbrev pub after_outcomes : List Cluster → List Cluster
after_outcomes cs = map (λ (c : Cluster). if is_ready c then with_result_taken c else c) cs

-- the outcome, where there is one
abbrev pub listed : Option Outcome → List Outcome
listed None = []
listed (Some o) = o ∷ []
