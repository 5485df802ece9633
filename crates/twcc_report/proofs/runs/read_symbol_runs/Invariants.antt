use Rattle.std.proofs.Common.{◌≡◌, ◌-◌, length}
use Rattle.twcc_report.specs.Runs.{all_symbols_of}
use Rattle.twcc_report.proofs.Gathering.{SoFar}
use Rattle.twcc_report.proofs.runs.read_symbol_runs.Given as goal

abbrev pub invariant-loop-left : goal.invariant-loop-left
invariant-loop-left l = SoFar l.count l.body (all_symbols_of l.runs.items) l.rest × (l.left ≡ l.count - length (all_symbols_of l.runs.items))

abbrev pub decreases-loop-left : goal.decreases-loop-left
decreases-loop-left l = length l.rest
