use Rattle.send_laws.proofs.Crediting.{credited-exactly}
use Rattle.send_laws.proofs.laws.reports_credit_exactly.Goals as goal

pub returns : goal.returns
returns c = credited-exactly
