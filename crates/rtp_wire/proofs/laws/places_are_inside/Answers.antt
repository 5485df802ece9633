use Rattle.rtp_wire.proofs.ByChecks.{place_bounds}
use Rattle.rtp_wire.proofs.laws.places_are_inside.Goals as goal

pub returns-clause-behind_header : goal.returns-clause-behind_header
returns-clause-behind_header c = λ id place bytes some few e. (place_bounds id bytes place some few e).0

pub returns-clause-inside : goal.returns-clause-inside
returns-clause-inside c = λ id place bytes some few e. (place_bounds id bytes place some few e).1

pub returns-clause-size : goal.returns-clause-size
returns-clause-size c = λ id place bytes some few e. (place_bounds id bytes place some few e).2
