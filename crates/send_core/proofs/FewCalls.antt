-- A history of few entries may get one more.
use Rattle.std.proofs.Common.{◌*◌, ◌<◌, ◌≤◌, List, length, arith}
use Rattle.gcc_units.specs.declared.limits.TheConstants.{MOST_ENTRIES, MOST_SENDS}
use Rattle.sent_history.specs.Events.{reports}
use Rattle.send_core.specs.declared.call.Entry.{Entry}
use Rattle.send_core.specs.History.{accepted, sent}
use Rattle.send_core.specs.Reports.{events}
use Rattle.send_core.specs.Stands.{Laws, MayGrow}
use Rattle.send_core.proofs.Pushes.{accepted-few}

pub grows-short : (h : List Entry) → Laws h → length h < MOST_ENTRIES → MayGrow h
grows-short h laws short =
    let accepts : length (accepted h) ≤ length h = accepted-few h in
    let sends : length (sent h) ≤ MOST_SENDS * length h = laws.few in
    let judges : length (reports (events h)) ≤ length h = laws.few_reports in
    record { few_sent = omega arith; few_judged = omega arith; few_accepted = omega arith }
