use Rattle.std.proofs.Common.{All, take}
use Rattle.send_laws.specs.Credits.{HasBytes}
use Rattle.send_laws.proofs.bytes.entries_have_bytes.Given as goal

abbrev pub invariant-loop-k : goal.invariant-loop-k
invariant-loop-k l = All HasBytes (take l.k l.journal.items)
