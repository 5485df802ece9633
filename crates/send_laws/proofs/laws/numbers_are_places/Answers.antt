use Rattle.send_laws.proofs.Numbering.{all-numbered}
use Rattle.send_laws.proofs.laws.numbers_are_places.Goals as goal

pub returns : goal.returns
returns c = all-numbered
