use Rattle.live_loop.proofs.way.Way.send.Goals as goal
use Rattle.std.proofs.Common.{inr, arith}

pub returns-clause-sent : goal.returns-clause-sent
returns-clause-sent c = inr (c.held_up-late.result, grind (arith, c.held_up-late.ensures.most, c.self.view_is), grind (arith, c.self.view_is))
