-- The reports that loss control was given.
use Rattle.std.specs.Prelude.{◌≡◌, ◌≤◌, ◌<◌, List, ◌++◌, length, sum_by, All}
use Rattle.loss_control.specs.declared.step.State.{State}
use Rattle.loss_control.specs.Rule.{Counts}
use Rattle.gcc_units.specs.declared.limits.TheConstants.{MOST_REPORTS, MOST_STATUSES}

-- Of these reports, the last ones are gathered.
pub record StandsFor (s : State) (reports : List Counts) : Type 0 where
  pub judged : List Counts
  pub gathered : List Counts
  pub split : reports ≡ judged ++ gathered
  pub received : s.received ≡ sum_by (λ (c : Counts). c.received) gathered
  pub missing : s.missing ≡ sum_by (λ (c : Counts). c.missing) gathered

-- No more packets than a report has.
pub record IsCounts (c : Counts) : Type 0 where
  pub received : c.received ≤ MOST_STATUSES
  pub missing : c.missing ≤ MOST_STATUSES

-- It was given fewer reports than the most.
abbrev pub TakesReport : State → Type 0
TakesReport s = (reports : List Counts) × StandsFor s reports × All IsCounts reports × (length reports < MOST_REPORTS)
