use Rattle.nack_rtx.proofs.Outcomes.{by_checks}
use Rattle.nack_rtx.proofs.Told.{each_byte}
use Rattle.nack_rtx.proofs.laws.reading_is_by_checks.Goals as goal

pub returns : goal.returns
returns c = λ bytes all. by_checks bytes (each_byte bytes all)
