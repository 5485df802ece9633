use Rattle.std.proofs.Common.{◌≡◌, ◌+◌, ◌≤◌, List, length}
use Rattle.sent_history.specs.Events.{Event, packets, reports, last_sent_at}
use Rattle.sent_history.specs.Kept.{StandsFor}
use Rattle.sent_history.proofs.tests.run_agrees.Given as goal

abbrev pub invariant-loop-number : goal.invariant-loop-number
invariant-loop-number g l =
    (events : List Event) × StandsFor l.history events × (length (packets events) ≡ l.number-counter) × (length (reports events) ≡ 0) × (last_sent_at events ≤ 1000 + l.number-counter)

abbrev pub invariant-loop-row : goal.invariant-loop-row
invariant-loop-row g l =
    (events : List Event) × StandsFor l.history events × (length (packets events) ≤ 65537) × (length (reports events) ≡ l.row-index)
