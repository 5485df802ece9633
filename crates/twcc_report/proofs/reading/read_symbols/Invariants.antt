use Rattle.std.proofs.Common.{◌≤◌, length, vec_capacity}
use Rattle.twcc_report.proofs.Gathering.{SoFar}
use Rattle.twcc_report.proofs.reading.read_symbols.Given as goal

abbrev pub invariant-loop-rest : goal.invariant-loop-rest
invariant-loop-rest l = SoFar l.count-2 l.body l.symbols.items l.rest × (l.count-2 ≤ vec_capacity l.symbols)

abbrev pub decreases-loop-rest : goal.decreases-loop-rest
decreases-loop-rest l = length l.rest
