use Rattle.send_laws.proofs.Remaining.{told-balanced}
use Rattle.send_laws.proofs.laws.packets_balance.Goals as goal

pub returns : goal.returns
returns c = told-balanced
