use Rattle.send_laws.proofs.Remaining.{credited-are}
use Rattle.send_laws.proofs.laws.replies_list_the_credits.Goals as goal

pub returns : goal.returns
returns c = credited-are
