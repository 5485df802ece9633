use Rattle.rtp_wire.proofs.ByChecks.{by_checks}
use Rattle.rtp_wire.proofs.laws.reading_is_by_checks.Goals as goal

pub returns : goal.returns
returns c = by_checks
