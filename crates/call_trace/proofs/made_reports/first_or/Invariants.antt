use Rattle.std.proofs.Common.{◌≡◌, drop}
use Rattle.call_trace.specs.MadeReports.{first_or}
use Rattle.call_trace.proofs.made_reports.first_or.Given as goal

abbrev pub invariant-loop-arrival : goal.invariant-loop-arrival
invariant-loop-arrival l = first_or l.other (drop l.arrival-index l.arrivals) ≡ first_or l.other l.arrivals
