use Rattle.std.proofs.Common.{◌≡◌, ℕ, None, cond, take}
use Rattle.pacer.specs.Pace.{names}
use Rattle.live_sender.specs.Held.{kept}
use Rattle.live_sender.proofs.packets.Packets.free.Given as goal

abbrev pub invariant-loop-sent : goal.invariant-loop-sent
invariant-loop-sent l = (k : ℕ) → kept l.self k ≡ cond (names k (take l.sent-index l.records)) None (kept l.fn.self k)
