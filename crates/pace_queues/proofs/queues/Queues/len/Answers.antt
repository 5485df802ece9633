use Rattle.pace_queues.proofs.Rings.{length-parts}
use Rattle.pace_queues.proofs.Changes.{list-is}
use Rattle.pace_queues.proofs.queues.Queues.len.Goals as goal

pub returns-clause-len : goal.returns-clause-len
returns-clause-len c =
    let r = c.self.invariant in
    rw (← c.self.view_is, list-is c.self.inside r, c.len.ensures.len, c.len-2.ensures.len, c.len-3.ensures.len, r.first_is, r.second_is, r.third_is)
    (length-parts r.waiting)

pub returns-clause-most : goal.returns-clause-most
returns-clause-most c =
    let r = c.self.invariant in
    rw (c.len.ensures.len, c.len-2.ensures.len, c.len-3.ensures.len, r.first_is, r.second_is, r.third_is, length-parts r.waiting) r.few
