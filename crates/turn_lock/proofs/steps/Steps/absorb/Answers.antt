use Rattle.std.proofs.Common.{arith}
use Rattle.turn_lock.specs.Rule.{Lawful}
use Rattle.turn_lock.proofs.Cuts.{takes_in}
use Rattle.turn_lock.proofs.steps.Steps.absorb.Goals as goal

pub join_seat-requires : goal.join_seat-requires
join_seat-requires g c = let t = c.args.self.now in let o = c.args.other in (
  c.requires.of.0,
  c.requires.of.1,
  c.requires.idle.1.2,
  omega (arith, t.sized),
  takes_in t.table.shared.key g.T.Object.history (Lawful g.T.Object.legal g.T.Object.board_of) g.T.Object.board_of c.args.place.now.id o.id c.args.place.now.me.0 o.me.0 c.requires.idle.1.0 c.requires.idle.1.1,
)
