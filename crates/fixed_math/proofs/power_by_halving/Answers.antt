use Rattle.fixed_math.proofs.Powers.{by_halving}
use Rattle.fixed_math.proofs.power_by_halving.Goals as goal

pub returns : goal.returns
returns c factor = by_halving factor
