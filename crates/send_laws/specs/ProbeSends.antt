-- What is kept of the packets of one probe cluster, and of the clusters that were planned.
use Rattle.std.specs.Prelude.{◌≡◌, ℕ, Bool, false, ◌==◌, List, [], length, sum, slice_get}
use Rattle.probe_clusters.specs.Deeds.{Deed, sizes, moments}
use Rattle.pacer.specs.declared.sent.Kind.{Kind}
use Rattle.pacer.specs.declared.sent.Kind.TheVariants as kind
use Rattle.pacer.specs.Course.{probes_of}
use Rattle.send_core.specs.declared.call.Call.{Call}
use Rattle.send_core.specs.declared.call.Call.TheVariants.{Configure}
use Rattle.send_core.specs.declared.call.Reply.{Reply}
use Rattle.send_core.specs.declared.call.Reply.TheVariants.{Accepted, Paced, Credited, Configured, Refused}
use Rattle.send_core.specs.Settings.{plans}
use Rattle.send_laws.specs.declared.probes.Sends.{Sends}
use Rattle.send_laws.specs.declared.plans.Planned.{Planned}
use Rattle.send_laws.specs.Probes as of

-- what a reply sends for clusters
abbrev pub sends_in : Reply → List Deed
sends_in (Accepted moment index) = []
sends_in (Paced moment records) = probes_of moment records.items
sends_in (Credited moment judged signal m acked rates shares) = []
sends_in (Configured moment rates shares) = []
sends_in (Refused moment cause) = []

abbrev pub is_for : ℕ → Kind → Bool
is_for id kind.Audio = false
is_for id kind.Media = false
is_for id (kind.Probe k) = k == id
is_for id kind.Padding = false

-- what these deeds sent for the cluster
pub record AreSends (id : ℕ) (ds : List Deed) (s : Sends) : Type 0 where
  pub all : s.bytes ≡ sum (sizes id ds)
  pub before : s.before_last ≡ of.before_last (sizes id ds)
  pub begins : s.first ≡ slice_get (moments id ds) 0
  pub ends : s.last ≡ of.last_of (moments id ds)

-- the rates that an entry plans, by whether a start was there before
abbrev pub plans_by : Bool → Call → Reply → List ℕ
plans_by started (Configure at change) (Configured moment rates shares) = plans started change
plans_by started call given = []

-- so many clusters were planned, the one with this id at this rate
pub record ArePlanned (id : ℕ) (planned_rates : List ℕ) (p : Planned) : Type 0 where
  pub many : p.count ≡ length planned_rates
  pub found : p.rate ≡ slice_get planned_rates id
