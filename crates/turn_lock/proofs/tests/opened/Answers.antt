use Rattle.std.proofs.Common.{ap, sym, ◌∙◌}
use Rattle.turn_lock.specs.Names.{names, all_names}
use Rattle.turn_lock.proofs.Names.{names_made}
use Rattle.turn_lock.proofs.tests.opened.Goals as goal

pub returns-clause-names : goal.returns-clause-names
returns-clause-names c = ap names (c.into_vec.ensures.items ∙ c.in-Ok.ensures.seats) ∙ (names_made _ _ c.in-Ok.turn.of c.args.seats ∙ ap (all_names c.in-Ok.turn.of) (sym c.in-Ok.ensures.turn))
