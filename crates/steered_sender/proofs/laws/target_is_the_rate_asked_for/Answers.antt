use Rattle.steered_sender.proofs.InForce.{in-force}
use Rattle.steered_sender.proofs.laws.target_is_the_rate_asked_for.Goals as goal

pub returns : goal.returns
returns c = in-force
