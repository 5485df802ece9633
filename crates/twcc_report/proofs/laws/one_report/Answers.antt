use Rattle.std.proofs.Common.{◌≡◌, Result, Ok}
use Rattle.twcc_report.specs.declared.fault.ReportFault.{ReportFault}
use Rattle.twcc_report.specs.Spelling.{Feedback}
use Rattle.twcc_report.specs.Reading.{read_of}
use Rattle.twcc_report.proofs.Outcomes.{spelled_is_read}
use Rattle.twcc_report.proofs.laws.one_report.Goals as goal

same : (r : Result Feedback ReportFault) (f g : Feedback) → r ≡ Ok f → r ≡ Ok g → f ≡ g
same r f g h k = cc

pub returns : goal.returns
returns c = λ f g bytes fits also s t. same (read_of bytes) f g (spelled_is_read bytes f fits s) (spelled_is_read bytes g also t)
