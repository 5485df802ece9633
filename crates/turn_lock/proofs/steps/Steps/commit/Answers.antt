use Rattle.std.proofs.Common.{arith}
use Rattle.turn_lock.specs.Rule.{Lawful}
use Rattle.turn_lock.proofs.Keeps.{commits}
use Rattle.turn_lock.proofs.steps.Steps.commit.Goals as goal

pub swap-requires : goal.swap-requires
swap-requires g c = let t = c.args.self.now in let s = c.requires.settles in (
  c.requires.of,
  omega (arith, t.sized),
  commits t.table.shared.key g.T.Object.history (Lawful g.T.Object.legal g.T.Object.board_of) g.T.Object.board_of _ c.args.place.now.id s.0 c.args.board c.args.place.now.me s.1 s.2 s.3,
)
