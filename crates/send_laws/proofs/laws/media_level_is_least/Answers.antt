use Rattle.send_laws.proofs.Filling.{level-least}
use Rattle.send_laws.proofs.laws.media_level_is_least.Goals as goal

pub returns : goal.returns
returns c history moment = level-least history moment
