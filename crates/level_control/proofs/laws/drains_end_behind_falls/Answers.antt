use Rattle.level_control.proofs.laws.drains_end_behind_falls.Goals as goal
use Rattle.level_control.proofs.Settling.{ends-behind-falls}

pub returns : goal.returns
returns c = ends-behind-falls
