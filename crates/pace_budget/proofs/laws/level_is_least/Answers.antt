use Rattle.pace_budget.proofs.Steps.{level-is_least}
use Rattle.pace_budget.proofs.laws.level_is_least.Goals as goal

pub returns : goal.returns
returns c = level-is_least
