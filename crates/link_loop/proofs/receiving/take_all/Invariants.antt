use Rattle.std.proofs.Common.{◌≡◌, ◌++◌, take}
use Rattle.link_loop.proofs.receiving.take_all.Given as goal

abbrev pub invariant-loop-arrival : goal.invariant-loop-arrival
invariant-loop-arrival l = l.receiver ≡ record l.fn.receiver { taken = l.fn.receiver.taken ++ take l.arrival-index l.arrived }
