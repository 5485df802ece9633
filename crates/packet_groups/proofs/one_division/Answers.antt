use Rattle.packet_groups.proofs.OneDivision.{the_one}
use Rattle.packet_groups.proofs.one_division.Goals as goal

pub returns : goal.returns
returns c credits = the_one credits
