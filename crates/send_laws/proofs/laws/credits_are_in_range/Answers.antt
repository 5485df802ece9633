use Rattle.send_laws.proofs.Arriving.{all-few, all-within}
use Rattle.send_laws.proofs.laws.credits_are_in_range.Goals as goal

pub returns : goal.returns
returns c = record { few = all-few; within = all-within c.reading_is_by_checks.ensures }
