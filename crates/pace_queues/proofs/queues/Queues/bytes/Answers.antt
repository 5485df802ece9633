use Rattle.pace_queues.proofs.Changes.{list-is}
use Rattle.pace_queues.proofs.queues.Queues.bytes.Goals as goal

pub returns : goal.returns
returns c = rw (← c.self.view_is, list-is c.self.inside c.self.invariant) c.self.invariant.bytes_is
