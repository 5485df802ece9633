use Rattle.fixed_math.proofs.Roots.{root_is}
use Rattle.fixed_math.proofs.isqrt.Goals as goal

pub returns-clause-value : goal.returns-clause-value
returns-clause-value c = root_is _ _ c.isqrt.ensures.square_le c.isqrt.ensures.next_square_gt
