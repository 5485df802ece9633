use Rattle.link_path.proofs.LinkTimes.{times, bits}
use Rattle.link_path.proofs.laws.no_faster_than_its_rate.Goals as goal

pub returns-clause-times : goal.returns-clause-times
returns-clause-times c s before between o p link goes last = times s before between o p goes

pub returns-clause-bits : goal.returns-clause-bits
returns-clause-bits c s before between o p link goes last = bits s before between o p link goes
