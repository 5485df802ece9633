use Rattle.std.proofs.Common.{subst}
use Rattle.turn_lock.specs.Rule.{Lawful}
use Rattle.turn_lock.specs.Plays.{Ends}
use Rattle.turn_lock.proofs.Cuts.{ends, same_value, no_value}
use Rattle.turn_lock.proofs.steps.Steps.end.Goals as goal

pub unreachable-requires : goal.unreachable-requires
unreachable-requires g c = let t = c.args.self in let i = c.requires.idle in
    let e = ends t.table.shared.key g.T.Object.history (Lawful g.T.Object.legal g.T.Object.board_of) g.T.Object.board_of c.args.place.id c.args.place.me.0 _ _ i.0 i.1 c.requires.every c.close_with-closed.ensures.values.2 in
    no_value _ e.0 e.1 c.in-None.ensures.value

pub returns : goal.returns
returns g c = let t = c.args.self in let i = c.requires.idle in
    let e = ends t.table.shared.key g.T.Object.history (Lawful g.T.Object.legal g.T.Object.board_of) g.T.Object.board_of c.args.place.id c.args.place.me.0 _ _ i.0 i.1 c.requires.every c.close_with-closed.ensures.values.2 in
    subst (λ x. Ends t.table.shared.key (g.T.Object.history x) c.args.place.me.0) (same_value _ e.0 c.in-Some.value e.1 c.in-Some.ensures.value) e.2
