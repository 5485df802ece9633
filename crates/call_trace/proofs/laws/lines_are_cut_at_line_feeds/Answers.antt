use Rattle.call_trace.proofs.Cutting.{lines_cut, lines_one}
use Rattle.call_trace.proofs.laws.lines_are_cut_at_line_feeds.Goals as goal

pub returns-clause-cut : goal.returns-clause-cut
returns-clause-cut c = λ bytes. lines_cut bytes

pub returns-clause-one : goal.returns-clause-one
returns-clause-one c = λ bytes cut is. lines_one bytes cut is
