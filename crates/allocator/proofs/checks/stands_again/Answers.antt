use Rattle.std.proofs.Common.{arith}
use Rattle.allocator.proofs.Ids.{next_stands}
use Rattle.allocator.proofs.checks.stands_again.Goals as goal

pub returns-in-len1-up : goal.returns-in-len1-up
returns-in-len1-up c = next_stands c.args.later.now c.args.id (omega arith) c.requires.rising c.requires.order
