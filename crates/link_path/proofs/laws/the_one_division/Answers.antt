use Rattle.link_path.proofs.OneWay.{the-one}
use Rattle.link_path.proofs.laws.the_one_division.Goals as goal

pub returns : goal.returns
returns c numbers = the-one numbers
