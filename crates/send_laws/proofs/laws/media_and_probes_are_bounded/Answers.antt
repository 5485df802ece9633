use Rattle.send_laws.proofs.Bounding.{spent-bounded}
use Rattle.send_laws.proofs.laws.media_and_probes_are_bounded.Goals as goal

pub returns : goal.returns
returns c = spent-bounded
