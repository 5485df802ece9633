use Rattle.std.proofs.Common.{sym, subst}
use Rattle.turn_lock.specs.Rule.{Lawful}
use Rattle.turn_lock.specs.Plays.{Settles}
use Rattle.turn_lock.proofs.steps.Steps.settle.Goals as goal

pub commit-requires-clause-settles : goal.commit-requires-clause-settles
commit-requires-clause-settles g c = let s = c.requires.settles in (
  s.0,
  c.args.value,
  s.1,
  subst (λ m. Settles g.T.Object.history (Lawful g.T.Object.legal g.T.Object.board_of) g.T.Object.board_of s.0 c.args.board m c.args.value s.1) (sym c.put_back.ensures.back) s.2,
)
