use Rattle.std.proofs.Common.{◌≡◌, ◌≤◌, List, length}
use Rattle.sent_history.specs.Events.{Event, packets, reports, last_sent_at}
use Rattle.sent_history.specs.Kept.{StandsFor}
use Rattle.sent_history.proofs.tests.many_adds.Given as goal

abbrev pub invariant-loop-number : goal.invariant-loop-number
invariant-loop-number g l =
    (events : List Event) × StandsFor l.history events × (length (packets events) ≡ l._number) × (length (reports events) ≡ 0) × (last_sent_at events ≤ 1000)
