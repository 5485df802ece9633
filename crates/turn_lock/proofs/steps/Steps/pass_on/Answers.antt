use Rattle.std.proofs.Common.{arith}
use Rattle.turn_lock.specs.Rule.{Lawful}
use Rattle.turn_lock.proofs.Keeps.{passes}
use Rattle.turn_lock.proofs.steps.Steps.pass_on.Goals as goal

pub fetch_add-requires : goal.fetch_add-requires
fetch_add-requires g c = let t = c.args.self.now in let w = c.requires.whole in (
  c.requires.of,
  omega (arith, t.sized),
  passes t.table.shared.key g.T.Object.history (Lawful g.T.Object.legal g.T.Object.board_of) g.T.Object.board_of _ c.args.place.now.id c.args.place.now.me w.0 w.1 c.requires.holds w.2 (omega (arith, t.sized)),
)
