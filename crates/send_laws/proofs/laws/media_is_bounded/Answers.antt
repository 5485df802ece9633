use Rattle.send_laws.proofs.Bounding.{media-bounded}
use Rattle.send_laws.proofs.laws.media_is_bounded.Goals as goal

pub returns : goal.returns
returns c = media-bounded
