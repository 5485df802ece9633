use Rattle.std.proofs.Common.{◌≡◌, ◌++◌, length, drop, vec_len, vec_capacity}
use Rattle.call_trace.specs.MadeReports.{statuses, IsNear}
use Rattle.call_trace.proofs.made_reports.statuses.Given as goal

abbrev pub invariant-loop-arrival : goal.invariant-loop-arrival
invariant-loop-arrival l = record {
  made : l.statuses.items ++ statuses l.before (drop l.arrival-index l.arrivals) ≡ statuses l.first l.arrivals;
  near : IsNear 1000 l.first l.before;
  len : vec_len l.statuses ≡ l.arrival-index;
  room : vec_capacity l.statuses ≡ length l.arrivals;
}
