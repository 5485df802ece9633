-- What a steered sender keeps, the history that it stands for, and what a call does to the steering.
use Rattle.std.specs.Prelude.{◌≡◌, ℕ, ◌+◌, ◌≤◌, ◌||◌, Bool, Option, Some, None, unwrap_or, List, ◌++◌, length, map, All}
use Rattle.std.specs.Option.{ForSome}
use Rattle.gcc_units.specs.declared.limits.TheConstants.{GREATEST_MOMENT, MOST_STATUSES}
use Rattle.gcc_units.specs.declared.shared_types.Bounds.{Bounds}
use Rattle.gcc_units.specs.declared.shared_types.Judged.{Judged}
use Rattle.gcc_units.specs.Rates.{IsBounds}
use Rattle.sent_history.specs.Events.{reports}
use Rattle.probe_clusters.specs.Deeds.{Deed, Note, Plan, rates, takings}
use Rattle.probe_clusters.specs.Deeds as probes
use Rattle.estimator.specs.Est.{found}
use Rattle.estimator.specs.Report.{round_trip, IsSmall, TakesNotes}
use Rattle.level_control.specs.declared.Answer.{Answer}
use Rattle.level_control.specs.declared.TheConstants.{GREATEST_ROUND_TRIP}
use Rattle.level_control.specs.Rule.{Gathers, TakesReport}
use Rattle.send_core.specs.declared.call.Change.{Change}
use Rattle.send_core.specs.declared.call.Entry.{Entry}
use Rattle.send_core.specs.History.{now}
use Rattle.send_core.specs.Settings.{settings, started, is_some, plans}
use Rattle.send_core.specs.Reports.{events, cluster_deeds}
use Rattle.send_core.specs.Estimates.{est}
use Rattle.steered_sender.specs.declared.steering.Steering.{Steering}
use Rattle.steered_sender.specs.Measures.{IsTimely}
use Rattle.steered_sender.specs.Steered.{steered, state_after, answer_to, wanted_by, set_by}

-- ---- what the steering stands for

pub record Steers (s : Steering) (history : List Entry) : Type 0 where
  pub level : s.level ≡ (steered s.start history).state
  pub wanted : s.wanted ≡ (steered s.start history).wanted
  pub clusters : probes.StandsFor s.clusters.items (cluster_deeds history)
  pub planned : s.planned.items ≡ rates (cluster_deeds history)
  pub was_started : s.started ≡ started history
  pub bounds : s.bounds ≡ (settings history).bounds
  pub round_trip : s.rtt ≡ (est history).rtt
  pub short : s.rtt ≤ GREATEST_ROUND_TRIP
  pub gathers : Gathers (length (reports (events history))) s.level
  pub last : ForSome s.level.last (λ last. last ≤ now history)

-- ---- what a report does to it

pub record TakesJudged (s : Steering) (now : ℕ) (judged : Judged) : Type 0 where
  pub moment : now ≤ GREATEST_MOMENT
  pub received : length judged.received.items ≤ MOST_STATUSES
  pub missing : judged.missing ≤ MOST_STATUSES
  pub timely : All IsTimely judged.received.items
  pub small : All IsSmall judged.received.items
  pub notes : TakesNotes s.clusters.items judged.received.items
  pub short : s.rtt ≤ GREATEST_ROUND_TRIP
  pub order : ForSome s.level.last (λ last. last ≤ now)
  pub bounds : IsBounds s.bounds
  pub few : TakesReport s.level

pub record Hears (now : ℕ) (judged : Judged) (acked : Option ℕ) (told : Answer) (before after : Steering) : Type 0 where
  pub start : after.start ≡ before.start
  pub planned : after.planned ≡ before.planned
  pub was_started : after.started ≡ before.started
  pub bounds : after.bounds ≡ before.bounds
  pub rtt : after.rtt ≡ round_trip before.rtt judged.received.items now
  pub short : after.rtt ≤ GREATEST_ROUND_TRIP
  pub level : (ds : List Deed) → probes.StandsFor before.clusters.items ds → before.planned.items ≡ rates ds
      → after.level ≡ state_after before.level ds before.bounds before.rtt now judged acked
  pub told_is : (ds : List Deed) → probes.StandsFor before.clusters.items ds → before.planned.items ≡ rates ds
      → told ≡ answer_to before.level ds before.bounds before.rtt now judged acked
  pub wanted : after.wanted ≡ Some (wanted_by told)
  pub clusters : (ds : List Deed) → probes.StandsFor before.clusters.items ds
      → probes.StandsFor after.clusters.items ((ds ++ map Note judged.received.items) ++ takings (found ds judged.received.items))
  pub gathers : (n : ℕ) → Gathers n before.level → Gathers (n + 1) after.level
  pub last : ForSome after.level.last (λ last. last ≤ now)

-- ---- what an accepted change does to it

abbrev pub bounds_with : Bounds → Change → Bounds
bounds_with b change = record { min = unwrap_or change.min b.min; max = unwrap_or change.max b.max }

pub record Changes (own : Bool) (change : Change) (before after : Steering) : Type 0 where
  pub start : after.start ≡ before.start
  pub rtt : after.rtt ≡ before.rtt
  pub bounds : after.bounds ≡ bounds_with before.bounds change
  pub was_started : after.started ≡ (before.started || is_some change.start)
  pub level : after.level ≡ set_by before.level own change after.bounds
  pub planned : after.planned.items ≡ before.planned.items ++ plans before.started change
  pub clusters : (ds : List Deed) → probes.StandsFor before.clusters.items ds
      → probes.StandsFor after.clusters.items (ds ++ map Plan (plans before.started change))
  pub wanted : after.wanted ≡ None
  pub gathers : (n : ℕ) → Gathers n before.level → Gathers n after.level
  pub last : after.level.last ≡ before.level.last
