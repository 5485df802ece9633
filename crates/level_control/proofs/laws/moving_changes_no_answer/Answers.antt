use Rattle.level_control.proofs.laws.moving_changes_no_answer.Goals as goal
use Rattle.level_control.proofs.Moved.{no_answer-moved}

pub returns : goal.returns
returns c = no_answer-moved
