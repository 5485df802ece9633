use Rattle.rtcp_compound.proofs.OneCutting.{one_list, one_place, apart}
use Rattle.rtcp_compound.proofs.laws.bytes_are_cut_in_one_way.Goals as goal

pub returns-clause-one : goal.returns-clause-one
returns-clause-one c = one_list

pub returns-clause-one_place : goal.returns-clause-one_place
returns-clause-one_place c = one_place

pub returns-clause-apart : goal.returns-clause-apart
returns-clause-apart c = apart
