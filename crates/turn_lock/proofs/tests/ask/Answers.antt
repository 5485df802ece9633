use Rattle.turn_lock.proofs.Adding.{within_turn, of_turn_at, names_kept}
use Rattle.turn_lock.proofs.tests.ask.Goals as goal

pub index_mut-requires : goal.index_mut-requires
index_mut-requires g c = let t = c.args.turn.now in within_turn t.of t.seats c.args.k c.args.seats.now.len c.args.seats.now.items c.requires.names c.args.seats.now.ok.0 c.requires.at

pub call-requires : goal.call-requires
call-requires g c = let t = c.args.turn.now in record { of = of_turn_at t.of t.seats c.args.k c.args.seats.now.items c.index_mut.result.now c.requires.names c.requires.at c.index_mut.ensures.value }

pub returns-in-Ok : goal.returns-in-Ok
returns-in-Ok g c = let t = c.args.turn.now in names_kept t.of t.seats c.args.k c.args.seats.now.items c.index_mut.result.now c.call.new.seat c.requires.names c.requires.at c.index_mut.ensures.value c.call.ensures.seat.0 c.call.ensures.seat.1

pub returns-in-Err : goal.returns-in-Err
returns-in-Err g c = let t = c.args.turn.now in names_kept t.of t.seats c.args.k c.args.seats.now.items c.index_mut.result.now c.call.new.seat c.requires.names c.requires.at c.index_mut.ensures.value c.call.ensures.seat.0 c.call.ensures.seat.1
