use Rattle.std.proofs.Common.{◌≡◌, ◌++◌, length}
use Rattle.call_trace.specs.Fields.{lines_of}
use Rattle.reply_text.specs.Looking.{glances_in}
use Rattle.reply_text.proofs.looking.read_glances.Given as goal

abbrev pub invariant-loop-line : goal.invariant-loop-line
invariant-loop-line l = l.glances.items ++ glances_in (lines_of l.rest).whole ≡ glances_in (lines_of l.fn.text).whole

abbrev pub decreases-loop-line : goal.decreases-loop-line
decreases-loop-line l = length l.rest
