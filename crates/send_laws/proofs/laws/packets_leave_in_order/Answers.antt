use Rattle.send_laws.proofs.Ordering.{in-order}
use Rattle.send_laws.proofs.laws.packets_leave_in_order.Goals as goal

pub returns : goal.returns
returns c = in-order
