-- What an estimator keeps, what it stands for, and which reports it may be given.
use Rattle.std.specs.Prelude.{◌≡◌, ℕ, ◌+◌, ◌≤◌, ◌<◌, List, length, map, All}
use Rattle.std.specs.Option.{ForSome}
use Rattle.gcc_units.specs.declared.limits.TheConstants.{MOST_PACKETS, MOST_REPORTS}
use Rattle.gcc_units.specs.declared.shared_types.Bounds.{Bounds}
use Rattle.gcc_units.specs.declared.shared_types.Credit.{Credit}
use Rattle.gcc_units.specs.declared.shared_types.Signal.{Signal}
use Rattle.gcc_units.specs.Rates.{IsRate, IsInBounds}
use Rattle.packet_groups.specs.declared.step.State as groups_state
use Rattle.arrival_filter.specs.Filter as filtered
use Rattle.overuse.specs.Detector as detected
use Rattle.acked_rate.specs.Kept as windowed
use Rattle.rate_control.specs.declared.state.State as control_state
use Rattle.loss_control.specs.declared.step.State as loss_state
use Rattle.loss_control.specs.Rule.{Counts}
use Rattle.loss_control.specs.GatheredReports as counted
use Rattle.estimator.specs.declared.estimate.Estimate.{Estimate}
use Rattle.estimator.specs.Signals.{Follow, IsSentBy}
use Rattle.estimator.specs.Report.{add_of}
use Rattle.estimator.specs.Est.{Est}

-- the values of its parts
pub record Values : Type 0 where
  pub groups : groups_state.State
  pub filter : filtered.State
  pub detector : detected.State
  pub window : windowed.Kept
  pub delay : control_state.State
  pub loss : loss_state.State
  pub signal : Signal
  pub rtt : ℕ

-- ---- what it was given

-- its arrival and size are in their ranges
abbrev pub IsInRange : Credit → Type 0
IsInRange c = windowed.IsWithin (add_of c)

-- Loss control was given the counts of so many reports.
pub record WasGiven (s : loss_state.State) (reports : ℕ) : Type 0 where
  pub counts : List Counts
  pub stands : counted.StandsFor s counts
  pub within : All counted.IsCounts counts
  pub number : length counts ≡ reports

-- ---- what it stands for

-- The parts were given all that the estimate is of.
pub record StandsFor (v : Values) (e : Est) : Type 0 where
  pub follow : Follow e.credits v.groups v.filter v.detector
  pub window : windowed.StandsFor v.window (map add_of e.credits)
  pub delay : v.delay ≡ e.delay
  pub loss : v.loss ≡ e.loss
  pub signal : v.signal ≡ e.signal
  pub rtt : v.rtt ≡ e.rtt
  pub ranges : All IsInRange e.credits
  pub reports : WasGiven v.loss e.reports

-- ---- which reports it may be given

-- All its packets were sent by then, and delay control made no step after it.
pub record IsUntil (moment : ℕ) (e : Est) : Type 0 where
  pub sent : All (IsSentBy moment) e.credits
  pub step : ForSome e.delay.last (λ last. last ≤ moment)

-- A report at this moment, with so many credits, comes no earlier than those before it, and with it there are no more
-- reports and credits than the most.
pub record TakesReport (v : Values) (received now : ℕ) : Type 0 where
  pub est : Est
  pub stands : StandsFor v est
  pub until : IsUntil now est
  pub few_reports : est.reports < MOST_REPORTS
  pub few_credits : length est.credits + received ≤ MOST_PACKETS

-- ---- what it says

pub record AreRates (e : Estimate) : Type 0 where
  pub delay : IsRate e.delay
  pub loss : IsRate e.loss
  pub target : IsRate e.target

pub record AreInBounds (bounds : Bounds) (e : Estimate) : Type 0 where
  pub delay : IsInBounds bounds e.delay
  pub loss : IsInBounds bounds e.loss
  pub target : IsInBounds bounds e.target
