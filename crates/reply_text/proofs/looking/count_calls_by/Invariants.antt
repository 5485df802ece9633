use Rattle.std.proofs.Common.{◌≡◌, ◌+◌, ◌≤◌, length, take}
use Rattle.call_trace.specs.Merge.{calls_by}
use Rattle.reply_text.proofs.looking.count_calls_by.Given as goal

abbrev pub invariant-loop-k : goal.invariant-loop-k
invariant-loop-k l = (length (calls_by l.actor (take l.from l.journal.items)) + l.count ≡ length (calls_by l.actor (take l.k l.journal.items))) × (l.count + l.from ≤ l.k)
