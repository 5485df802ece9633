-- What an estimator knows: all credits so far, and what the rules keep beside them.
use Rattle.std.specs.Prelude.{ℕ, ◌+◌, min, Option, unwrap_or, List, [], ◌++◌, length}
use Rattle.gcc_units.specs.declared.shared_types.Bounds.{Bounds}
use Rattle.gcc_units.specs.declared.shared_types.Credit.{Credit}
use Rattle.gcc_units.specs.declared.shared_types.Signal.{Signal}
use Rattle.gcc_units.specs.declared.shared_types.Signal.TheVariants.{Normal}
use Rattle.gcc_units.specs.Rates.{bounded}
use Rattle.rate_control.specs.declared.state.State as control_state
use Rattle.rate_control.specs.Steps as control
use Rattle.loss_control.specs.declared.step.State as loss_state
use Rattle.loss_control.specs.Rule as loss_rule
use Rattle.probe_clusters.specs.declared.probes.Outcome.{Outcome}
use Rattle.estimator.specs.declared.estimate.Estimate.{Estimate}
use Rattle.estimator.specs.declared.estimate.TheConstants.{START_ROUND_TRIP}
use Rattle.estimator.specs.Signals.{mean}
use Rattle.estimator.specs.Report.{round_trip, acked_of, delay_after, delay_taking, loss_taking}
pub use Rattle.estimator.specs.Signals.{report_signal}
pub use Rattle.estimator.specs.Report.{found}

pub record Est : Type 0 where
  pub credits : List Credit
  pub delay : control_state.State
  pub loss : loss_state.State
  -- the signal of the last report that gave one
  pub signal : Signal
  pub rtt : ℕ
  -- how many reports there were
  pub reports : ℕ

-- before the first report
abbrev pub start_est : ℕ → Est
start_est rate = record {
  credits = [];
  delay = control.started rate;
  loss = loss_rule.begun rate;
  signal = Normal;
  rtt = START_ROUND_TRIP;
  reports = 0;
}

-- ---- the calls

-- After one report: what it credited, how many packets it reported missing, its moment, the bounds, and the results of
-- clusters that it brought. Delay control makes a step where the report gave a signal, loss control makes one in any case,
-- and then both take the results.
abbrev pub judged_est : Est → List Credit → ℕ → ℕ → Bounds → List Outcome → Est
judged_est e received missing now bounds results =
    let credits = e.credits ++ received in
    let signal = report_signal e.credits received in
    let rtt = round_trip e.rtt received now in
    let counts : loss_rule.Counts = record { received = length received; missing = missing } in
    record {
      credits = credits;
      delay = delay_taking bounds (delay_after signal e.delay (acked_of credits) rtt now bounds) results;
      loss = loss_taking bounds (loss_rule.after e.loss counts now bounds) results;
      signal = unwrap_or signal e.signal;
      rtt = rtt;
      reports = e.reports + 1;
    }

-- both estimates put to a start, where one is given, and then into bounds
abbrev pub set_est : Est → Option ℕ → Bounds → Est
set_est e start bounds =
    record e {
      delay = control.set_to e.delay start bounds;
      loss = loss_rule.with_estimate e.loss (bounded bounds (unwrap_or start e.loss.estimate));
    }

-- what it says
abbrev pub estimate : Est → Estimate
estimate e = record {
  delay = e.delay.rate;
  loss = e.loss.estimate;
  target = min e.delay.rate e.loss.estimate;
  signal = e.signal;
  m = mean e.credits;
  acked = acked_of e.credits;
}
