use Rattle.level_control.proofs.laws.drains_are_those_of_the_list.Goals as goal
use Rattle.level_control.proofs.Falls.{drains-of-list}

pub returns : goal.returns
returns c = drains-of-list
