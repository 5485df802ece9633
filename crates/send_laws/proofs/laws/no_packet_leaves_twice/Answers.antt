use Rattle.send_laws.proofs.Ordering.{all-fresh}
use Rattle.send_laws.proofs.laws.no_packet_leaves_twice.Goals as goal

pub returns : goal.returns
returns c = all-fresh
