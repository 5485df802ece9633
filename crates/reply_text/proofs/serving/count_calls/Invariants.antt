use Rattle.std.proofs.Common.{◌≡◌, length, take}
use Rattle.reply_text.specs.Verdict.{calls}
use Rattle.reply_text.proofs.serving.count_calls.Given as goal

abbrev pub invariant-loop-line : goal.invariant-loop-line
invariant-loop-line l = l.count ≡ length (calls (take l.line-index l.lines))
