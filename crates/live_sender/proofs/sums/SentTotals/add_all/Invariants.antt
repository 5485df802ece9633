use Rattle.std.proofs.Common.{◌≡◌, ◌++◌, List, take}
use Rattle.pacer.specs.declared.sent.Sent.{Sent}
use Rattle.live_sender.specs.Sums.{totals_of}
use Rattle.live_sender.proofs.sums.SentTotals.add_all.Given as goal

abbrev pub invariant-loop-sent : goal.invariant-loop-sent
invariant-loop-sent l = (before : List Sent) → l.fn.self ≡ totals_of before → l.self ≡ totals_of (before ++ take l.sent-index l.records)
