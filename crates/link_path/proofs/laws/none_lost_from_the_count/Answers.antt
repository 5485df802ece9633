use Rattle.link_path.proofs.LinkRuns.{whole}
use Rattle.link_path.proofs.laws.none_lost_from_the_count.Goals as goal

pub returns : goal.returns
returns c s events link some = whole s events link some
