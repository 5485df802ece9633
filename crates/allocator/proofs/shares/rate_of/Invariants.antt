use Rattle.std.proofs.Common.{◌≡◌, drop}
use Rattle.allocator.specs.Shares.{rate_of, spread}
use Rattle.allocator.proofs.shares.rate_of.Given as goal

abbrev pub invariant-loop-stream : goal.invariant-loop-stream
invariant-loop-stream l =
    rate_of (spread l.standing.level l.left (drop l.stream-index l.served)) l.id
    ≡ rate_of (spread l.standing.level l.standing.left l.served) l.id
