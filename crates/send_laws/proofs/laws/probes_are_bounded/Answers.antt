use Rattle.send_laws.proofs.Probing.{probes-bounded, probes-planned}
use Rattle.send_laws.proofs.Rising.{probes-rise}
use Rattle.send_laws.proofs.laws.probes_are_bounded.Goals as goal

pub returns : goal.returns
returns c = record { bound = probes-bounded; order = probes-rise; planned = probes-planned }
