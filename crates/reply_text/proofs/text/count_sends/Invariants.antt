use Rattle.std.proofs.Common.{◌≡◌, ◌*◌, ◌≤◌, take, length}
use Rattle.send_core.specs.History.{sent}
use Rattle.reply_text.proofs.text.count_sends.Given as goal

abbrev pub invariant-loop-k : goal.invariant-loop-k
invariant-loop-k l = (l.count ≡ length (sent (take l.k l.journal.items))) × (l.count ≤ 4294967295 * l.k)
