use Rattle.packet_groups.proofs.Sums.{samples_are_few, gaps_are_short}
use Rattle.packet_groups.proofs.samples_stay_few.Goals as goal

pub returns-clause-few : goal.returns-clause-few
returns-clause-few c = samples_are_few

pub returns-clause-short : goal.returns-clause-short
returns-clause-short c = gaps_are_short
