use Rattle.std.proofs.Common.{◌+◌}
use Rattle.level_control.specs.Rule.{Gathers}
use Rattle.level_control.proofs.LevelControl.take_report.Goals as goal

pub returns-clause-gathers : goal.returns-clause-gathers
returns-clause-gathers c n few =
    let more : Gathers (n + 1) c.after_report-measured.result.state = c.after_report-measured.ensures.gathers n (rw c.self.view_is few) in
    record { received = rw c.probed-asked.ensures.losses more.received; missing = rw c.probed-asked.ensures.losses more.missing }
