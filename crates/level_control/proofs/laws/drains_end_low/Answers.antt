use Rattle.level_control.proofs.laws.drains_end_low.Goals as goal
use Rattle.level_control.proofs.Lowering.{drains-end-low, own-drains-end-lower}

pub returns-clause-list : goal.returns-clause-list
returns-clause-list c = drains-end-low

pub returns-clause-own : goal.returns-clause-own
returns-clause-own c = own-drains-end-lower
