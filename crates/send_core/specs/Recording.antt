-- A history of sent packets that takes so many more at a moment.
use Rattle.std.specs.Prelude.{ℕ, ◌+◌, ◌≤◌, List, length}
use Rattle.gcc_units.specs.declared.limits.TheConstants.{MOST_PACKETS, MOST_REPORTS}
use Rattle.sent_history.specs.Events.{Event, packets, reports, last_sent_at}
use Rattle.sent_history.specs.Kept.{Kept, StandsFor}

pub record TakesSent (h : Kept) (moment more : ℕ) : Type 0 where
  pub events : List Event
  pub stands : StandsFor h events
  pub few : length (packets events) + more ≤ MOST_PACKETS
  pub few_reports : length (reports events) ≤ MOST_REPORTS
  pub order : last_sent_at events ≤ moment
