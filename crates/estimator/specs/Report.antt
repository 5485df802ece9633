-- What one report changes in the parts, apart from what its credits say of the path.
use Rattle.std.specs.Prelude.{ℕ, ◌+◌, ◌-◌, ◌≤◌, ◌<◌, min, max, Option, None, Some, List, [], ◌∷◌, ◌++◌, length, map, fold, IfSome, All}
use Rattle.gcc_units.specs.declared.shared_types.Bounds.{Bounds}
use Rattle.gcc_units.specs.declared.shared_types.Credit.{Credit}
use Rattle.gcc_units.specs.declared.shared_types.Signal.{Signal}
use Rattle.gcc_units.specs.declared.limits.TheConstants.{GREATEST_PACKET, MOST_PACKETS}
use Rattle.gcc_units.specs.Rates.{bounded}
use Rattle.acked_rate.specs.Received.{Add, acked}
use Rattle.acked_rate.specs.Kept as windowed
use Rattle.rate_control.specs.declared.TheConstants.{GREATEST_ROUND_TRIP}
use Rattle.rate_control.specs.declared.state.State as control_state
use Rattle.rate_control.specs.Steps as control
use Rattle.loss_control.specs.declared.step.State as loss_state
use Rattle.loss_control.specs.Rule as loss
use Rattle.probe_clusters.specs.declared.cluster.Cluster.{Cluster}
use Rattle.probe_clusters.specs.declared.probes.Outcome.{Outcome}
use Rattle.probe_clusters.specs.Heard.{later_of}
use Rattle.probe_clusters.specs.Clusters.{outcomes}
use Rattle.probe_clusters.specs.Deeds.{Deed, Note, clusters, ReachedBy}

-- ---- the round-trip time

-- the time since the received packet with the greatest number was sent, cut; it stays where nothing was received
abbrev pub round_trip : ℕ → List Credit → ℕ → ℕ
round_trip rtt [] now = rtt
round_trip rtt (c ∷ cs) now = min GREATEST_ROUND_TRIP (now - (fold later_of c cs).sent_at)

-- ---- the step of delay control

-- It makes a step where the report gave a signal.
abbrev pub delay_after : Option Signal → control_state.State → Option ℕ → ℕ → ℕ → Bounds → control_state.State
delay_after None s acked rtt now bounds = s
delay_after (Some signal) s acked rtt now bounds = control.step s signal acked rtt now bounds

-- ---- the results of probe clusters

-- the results that the clusters have after these credits, in the order of their ids
abbrev pub found : List Deed → List Credit → List Outcome
found ds received = outcomes (clusters (ds ++ map Note received))

-- A result, where a cluster has one, goes to both controls.
abbrev pub delay_probed : Bounds → control_state.State → Option ℕ → control_state.State
delay_probed bounds s None = s
delay_probed bounds s (Some rate) = control.with_probe s rate bounds

abbrev pub loss_probed : Bounds → loss_state.State → Option ℕ → loss_state.State
loss_probed bounds s None = s
loss_probed bounds s (Some rate) = loss.with_estimate s (bounded bounds (max s.estimate rate))

-- after all these results
abbrev pub delay_taking : Bounds → control_state.State → List Outcome → control_state.State
delay_taking bounds s results = fold (λ before (o : Outcome). delay_probed bounds before o.result) s results

abbrev pub loss_taking : Bounds → loss_state.State → List Outcome → loss_state.State
loss_taking bounds s results = fold (λ before (o : Outcome). loss_probed bounds before o.result) s results

-- ---- the credits that clusters may be given

-- the cluster that the credit names, if it names one, was planned
abbrev pub NamesPlanned : List Cluster → Credit → Type 0
NamesPlanned cs c = IfSome c.cluster (λ id. id < length cs)

abbrev pub IsSmall : Credit → Type 0
IsSmall c = c.size ≤ GREATEST_PACKET

-- Beside the credits of before, no more than the most in all, each of a cluster that was planned.
pub record TakesNotes (cs : List Cluster) (received : List Credit) : Type 0 where
  pub before : ℕ
  pub reached : ReachedBy MOST_PACKETS before cs
  pub few : before + length received ≤ MOST_PACKETS
  pub named : All (NamesPlanned cs) received

-- ---- the received rate

-- what the window is given of a credit
abbrev pub add_of : Credit → Add
add_of c = record { arrival = c.arrival; size = c.size }

-- the received rate over all these credits
abbrev pub acked_of : List Credit → Option ℕ
acked_of credits = acked (map add_of credits)

-- Beside the packets of before, no more than the most in all.
pub record TakesAdds (now : windowed.Kept) (received : ℕ) : Type 0 where
  pub before : List Add
  pub stands : windowed.StandsFor now before
  pub within : All windowed.IsWithin before
  pub few : length before + received ≤ MOST_PACKETS
