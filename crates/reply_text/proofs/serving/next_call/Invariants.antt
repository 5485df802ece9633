use Rattle.std.proofs.Common.{◌≡◌, take}
use Rattle.call_trace.specs.Merge.{calls_of}
use Rattle.reply_text.proofs.serving.next_call.Given as goal

abbrev pub invariant-loop-place : goal.invariant-loop-place
invariant-loop-place l = calls_of l.actor (take l.place l.lines) ≡ calls_of l.actor (take l.from l.lines)
