use Rattle.std.proofs.Common.{rules}
use Rattle.pacer.specs.Force.{in_force}
use Rattle.pacer.proofs.force.in_force.Goals as goal

pub returns-clause-value : goal.returns-clause-value
unfolding in_force
returns-clause-value c = search rules
