-- The rule of the level control: what a report and a setting make of its state.
use Rattle.std.specs.Prelude.{ℕ, ℤ, ◌<◌, ◌≤◌, ◌*◌, Bool, false, Option, Some, None, unwrap_or}
use Rattle.std.specs.Option.{ForSome}
use Rattle.gcc_units.specs.declared.shared_types.Bounds.{Bounds}
use Rattle.gcc_units.specs.declared.limits.TheConstants.{GREATEST_MOMENT, GREATEST_RATE, MOST_REPORTS, MOST_STATUSES}
use Rattle.gcc_units.specs.Rates.{bounded, IsRate}
use Rattle.level_control.specs.declared.state.Report.{Report}
use Rattle.level_control.specs.declared.state.State.{State}
use Rattle.level_control.specs.declared.state.Delays.{Delays}
use Rattle.level_control.specs.declared.state.Shown.{Shown}
use Rattle.level_control.specs.declared.losses.Heard.{Heard}
use Rattle.level_control.specs.declared.report.Measured.{Measured}
use Rattle.level_control.specs.declared.TheConstants.{GREATEST_ROUND_TRIP}
use Rattle.level_control.specs.Delays.{above, level, delays_after, IsDelay}
use Rattle.level_control.specs.Drains.{asks_cut, stepped, IsRest}
use Rattle.level_control.specs.Growth.{elapsed}
use Rattle.level_control.specs.Losses.{after_losses}

-- before the first report
abbrev pub started : ℕ → State
started rate =
    record {
      rate = rate;
      capacity = None;
      drain = None;
      row = 0;
      losses = record { received = 0; missing = 0; since = None; tolerated = 0; tried = None };
      delays = None;
      last = None;
      probed = None;
    }

abbrev pub shown_by : State → Bool → ℤ → Report → Delays → Shown
shown_by s lossy delay x k =
    record {
      delays = k;
      above = above delay k.base;
      level = level k s.row;
      time = elapsed s.last x.now;
      lossy = lossy;
      acked = x.acked;
      rtt = x.rtt;
      now = x.now;
    }

-- what a report with this delay shows
abbrev pub shown : State → Bool → ℤ → Report → Shown
shown s lossy delay x = shown_by s lossy delay x (delays_after s.delays delay x.now)

abbrev pub with_shown : State → Shown → State
with_shown s y = stepped (record s { delays = Some y.delays; last = Some y.now }) y

-- A report that credits nothing makes no step of delay.
abbrev pub with_delay : State → Bool → Option ℤ → Report → Measured
with_delay s lossy None x = record { state = s; cut = false }
with_delay s lossy (Some delay) x =
    record { state = with_shown s (shown s lossy delay x); cut = asks_cut s.drain (shown s lossy delay x) }

-- the rate, put in bounds
abbrev pub put_in : Bounds → State → State
put_in bounds s = record s { rate = bounded bounds s.rate }

abbrev pub begun_at : ℕ → State → State
begun_at now s = record s { probed = Some (unwrap_or s.probed now) }

-- after a report, without the results of probes: losses, then delay, then the bounds
abbrev pub measured_by : Heard → Report → Bounds → Measured
measured_by h x bounds =
    let m = with_delay h.state h.lossy x.delay x in
    record { state = begun_at x.now (put_in bounds m.state); cut = m.cut }

abbrev pub after_report : State → Report → Bounds → Measured
after_report s x bounds = measured_by (after_losses s x) x bounds

abbrev pub restarted : State → Option ℕ → State
restarted s None = s
restarted s (Some rate) = record s { rate = rate; capacity = None; drain = None; row = 0 }

-- A start is taken as it is, and ends a drain; base, floor and losses stay.
abbrev pub set_to : State → Option ℕ → Bounds → State
set_to s start bounds = put_in bounds (restarted s start)

-- ---- where numbers lie

pub record IsReport (x : Report) : Type 0 where
  pub delay : ForSome x.delay IsDelay
  pub received : x.received ≤ MOST_STATUSES
  pub missing : x.missing ≤ MOST_STATUSES
  pub acked : ForSome x.acked (λ received. received ≤ GREATEST_RATE)
  pub round_trip : x.rtt ≤ GREATEST_ROUND_TRIP
  pub moment : x.now ≤ GREATEST_MOMENT

pub record IsKept (s : State) : Type 0 where
  pub rate : IsRate s.rate
  pub rest : IsRest s

-- The loss window has no more counts than so many reports have.
pub record Gathers (n : ℕ) (s : State) : Type 0 where
  pub received : s.losses.received ≤ n * MOST_STATUSES
  pub missing : s.losses.missing ≤ n * MOST_STATUSES

-- and those reports are fewer than the most
abbrev pub TakesReport : State → Type 0
TakesReport s = (n : ℕ) × Gathers n s × (n < MOST_REPORTS)
