use Rattle.level_control.proofs.laws.loss_windows_are_those_of_the_list.Goals as goal
use Rattle.level_control.proofs.Counts.{losses-of-list}

pub returns : goal.returns
returns c = losses-of-list
