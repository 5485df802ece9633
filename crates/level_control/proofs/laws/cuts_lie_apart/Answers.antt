use Rattle.level_control.proofs.laws.cuts_lie_apart.Goals as goal
use Rattle.level_control.proofs.Apart.{cuts-apart}

pub returns-clause-list : goal.returns-clause-list
returns-clause-list c = cuts-apart
