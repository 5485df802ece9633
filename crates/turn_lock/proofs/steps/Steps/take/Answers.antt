use Rattle.std.proofs.Common.{◌∷◌, Some, sym, ap, ◌∙◌}
use Rattle.atomic_table.specs.Table.{rest}
use Rattle.turn_lock.proofs.steps.Steps.take.Goals as goal

pub exchange-requires : goal.exchange-requires
exchange-requires g c = let w = c.requires.with_it in (c.requires.of, (Some w.0, w.1 ∙ ap (λ l. (0, Some w.0) ∷ l) (sym (ap rest w.1))))
