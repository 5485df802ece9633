use Rattle.turn_lock.proofs.Adding.{within_turn, of_turn_at, names_kept}
use Rattle.turn_lock.proofs.tests.told.Goals as goal

pub index_mut-requires : goal.index_mut-requires
index_mut-requires c = let t = c.args.turn.now in within_turn t.of t.seats c.args.k c.args.seats.now.len c.args.seats.now.items c.requires.names c.args.seats.now.ok.0 c.requires.at

pub hear-requires-clause-of : goal.hear-requires-clause-of
hear-requires-clause-of c = let t = c.args.turn.now in of_turn_at t.of t.seats c.args.k c.args.seats.now.items c.index_mut.result.now c.requires.names c.requires.at c.index_mut.ensures.value

pub returns : goal.returns
returns c = let t = c.args.turn.now in names_kept t.of t.seats c.args.k c.args.seats.now.items c.index_mut.result.now c.hear.new.seat c.requires.names c.requires.at c.index_mut.ensures.value c.hear.ensures.seat.0 c.hear.ensures.seat.1
