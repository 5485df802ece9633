use Rattle.std.proofs.Common.{arith}
use Rattle.turn_lock.specs.Rule.{Lawful}
use Rattle.turn_lock.proofs.Cuts.{tells}
use Rattle.turn_lock.proofs.steps.Steps.tell.Goals as goal

pub split_seat-requires : goal.split_seat-requires
split_seat-requires g c = let t = c.args.self.now in (
  c.requires.of,
  omega (arith, t.sized),
  tells t.table.shared.key g.T.Object.history (Lawful g.T.Object.legal g.T.Object.board_of) g.T.Object.board_of c.args.place.now.id c.args.place.now.me.0,
)
