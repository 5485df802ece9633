use Rattle.std.proofs.Common.{◌+◌}
use Rattle.link_path.specs.Link.{arrivals, free_after}
use Rattle.link_path.proofs.Rising.{pairs}
use Rattle.link_path.proofs.LinkRuns.{arrivals-rise}
use Rattle.link_path.proofs.laws.none_early.Goals as goal

pub returns-clause-order : goal.returns-clause-order
returns-clause-order c s os link some = pairs 0 (arrivals s os) (free_after s os + s.delay) (arrivals-rise s os link some)
