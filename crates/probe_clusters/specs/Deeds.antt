-- What was done to the clusters, and the clusters that it leaves.
use Rattle.std.specs.Prelude.{◌≡◌, ℕ, ◌+◌, ◌<◌, ◌≤◌, Bool, true, false, ◌==◌, if◌then◌else◌, List, [], ◌∷◌, ◌++◌, length, sum, map, count_by, All, slice_get, Option, Some, None}
use Rattle.std.specs.List.{flat_map, list_any}
use Rattle.gcc_units.specs.declared.shared_types.Credit.{Credit}
use Rattle.gcc_units.specs.declared.limits.TheConstants.{GREATEST_PACKET}
use Rattle.probe_clusters.specs.declared.cluster.Cluster.{Cluster}
use Rattle.probe_clusters.specs.declared.probes.Outcome.{Outcome}
use Rattle.probe_clusters.specs.Heard.{heard_of}

-- a cluster was planned; a packet was sent for a cluster, or credited; a cluster's result was taken
pub data Deed : Type 0 where
  Plan : (rate : ℕ) → Deed
  Send : (id : ℕ) → (size : ℕ) → (moment : ℕ) → Deed
  Note : (credit : Credit) → Deed
  Take : (id : ℕ) → Deed

-- ---- what the deeds say of a cluster

abbrev pub rate_by : Deed → List ℕ
rate_by (Plan rate) = rate ∷ []
rate_by _ = []

-- the rates that were planned
abbrev pub rates : List Deed → List ℕ
rates ds = flat_map rate_by ds

abbrev pub size_by : ℕ → Deed → List ℕ
size_by id (Send k size moment) = if k == id then size ∷ [] else []
size_by id _ = []

-- the sizes of the packets that were sent for the cluster
abbrev pub sizes : ℕ → List Deed → List ℕ
sizes id ds = flat_map (size_by id) ds

abbrev pub moment_by : ℕ → Deed → List ℕ
moment_by id (Send k size moment) = if k == id then moment ∷ [] else []
moment_by id _ = []

-- when they were sent
abbrev pub moments : ℕ → List Deed → List ℕ
moments id ds = flat_map (moment_by id) ds

abbrev pub names : ℕ → Option ℕ → Bool
names id None = false
names id (Some k) = k == id

abbrev pub credit_by : ℕ → Deed → List Credit
credit_by id (Note credit) = if names id credit.cluster then credit ∷ [] else []
credit_by id _ = []

abbrev pub takes : ℕ → Deed → Bool
takes id (Take k) = k == id
takes id _ = false

-- the credits of its packets that came before its result was taken
abbrev pub credits : ℕ → List Deed → List Credit
credits id [] = []
credits id (d ∷ ds) = if takes id d then [] else credit_by id d ++ credits id ds

-- the cluster of this id and rate
abbrev pub cluster_of : List Deed → ℕ → ℕ → Cluster
cluster_of ds id rate = record {
  rate = rate;
  packets = length (sizes id ds);
  bytes = sum (sizes id ds);
  first_sent = slice_get (moments id ds) 0;
  heard = heard_of (credits id ds);
  taken = list_any (takes id) ds;
}

abbrev pub clusters_from : List Deed → ℕ → List ℕ → List Cluster
clusters_from ds id [] = []
clusters_from ds id (rate ∷ rates) = cluster_of ds id rate ∷ clusters_from ds (id + 1) rates

-- the clusters that these deeds leave: one for each that was planned, in that order
abbrev pub clusters : List Deed → List Cluster
clusters ds = clusters_from ds 0 (rates ds)

-- ---- what a value stands for

abbrev pub NamedBelow : ℕ → Option ℕ → Type 0
NamedBelow count None = Unit {0}
NamedBelow count (Some id) = id < count

-- the cluster that the deed names has an id below this
abbrev pub NamesBelow : ℕ → Deed → Type 0
NamesBelow count (Plan rate) = Unit {0}
NamesBelow count (Send id size moment) = id < count
NamesBelow count (Note credit) = NamedBelow count credit.cluster
NamesBelow count (Take id) = id < count

-- These are the clusters that the deeds leave, and each cluster that a deed names was planned.
pub record StandsFor (now : List Cluster) (ds : List Deed) : Type 0 where
  pub are : now ≡ clusters ds
  pub known : All (NamesBelow (length (rates ds))) ds

-- ---- ranges

abbrev pub is_send : Deed → Bool
is_send (Send id size moment) = true
is_send _ = false

abbrev pub is_note : Deed → Bool
is_note (Note credit) = true
is_note _ = false

abbrev pub IsSizeWithin : Deed → Type 0
IsSizeWithin (Plan rate) = Unit {0}
IsSizeWithin (Send id size moment) = size ≤ GREATEST_PACKET
IsSizeWithin (Note credit) = credit.size ≤ GREATEST_PACKET
IsSizeWithin (Take id) = Unit {0}

-- no more sends and credits than these, and no packet greater than one may be
pub record IsWithin (sends credits : ℕ) (ds : List Deed) : Type 0 where
  pub few_sends : count_by is_send ds ≤ sends
  pub few_credits : count_by is_note ds ≤ credits
  pub sizes : All IsSizeWithin ds

-- These are the clusters that some deeds leave, with no more sends and credits than these.
pub record ReachedBy (sends credits : ℕ) (now : List Cluster) : Type 0 where
  pub deeds : List Deed
  pub stands : StandsFor now deeds
  pub within : IsWithin sends credits deeds

-- ---- the deeds of calls

-- a send, where a cluster is named
abbrev pub send : Option ℕ → ℕ → ℕ → List Deed
send None size moment = []
send (Some id) size moment = Send id size moment ∷ []

abbrev pub taking : Outcome → Deed
taking o = Take o.id

-- the taking of an outcome, where there is one
abbrev pub takings : List Outcome → List Deed
takings outcomes = map taking outcomes
