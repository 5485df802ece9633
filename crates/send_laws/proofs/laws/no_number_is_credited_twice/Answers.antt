use Rattle.send_laws.proofs.Remaining.{told-once}
use Rattle.send_laws.proofs.laws.no_number_is_credited_twice.Goals as goal

pub returns : goal.returns
returns c = told-once
