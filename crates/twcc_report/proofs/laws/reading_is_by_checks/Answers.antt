use Rattle.twcc_report.proofs.Outcomes.{by_checks}
use Rattle.twcc_report.proofs.Told.{each_byte}
use Rattle.twcc_report.proofs.laws.reading_is_by_checks.Goals as goal

pub returns : goal.returns
returns c = λ bytes all. by_checks bytes (each_byte bytes all)
