use Rattle.std.proofs.Common.{ap, ◌∙◌}
use Rattle.turn_lock.proofs.Adding.{within_turn, of_turn_at, names_kept}
use Rattle.turn_lock.proofs.tests.noted.Goals as goal

pub index_mut-requires : goal.index_mut-requires
index_mut-requires c = let t = c.args.turn.now in within_turn t.of t.seats c.args.k c.args.seats.now.len c.args.seats.now.items c.requires.names c.args.seats.now.ok.0 c.requires.at

pub note-requires : goal.note-requires
note-requires c = let t = c.args.turn.now in record { of = of_turn_at t.of t.seats c.args.k c.args.seats.now.items c.index_mut.result.now c.requires.names c.requires.at c.index_mut.ensures.value }

pub returns-clause-names : goal.returns-clause-names
returns-clause-names c = let t = c.args.turn.now in names_kept t.of t.seats c.args.k c.args.seats.now.items c.index_mut.result.now c.note.new.seat c.requires.names c.requires.at c.index_mut.ensures.value (ap (λ s. s.of) c.note.ensures.seat) (ap (λ s. s.number) c.note.ensures.seat)

pub returns-clause-of : goal.returns-clause-of
returns-clause-of c = let t = c.args.turn.now in c.note.ensures.of ∙ of_turn_at t.of t.seats c.args.k c.args.seats.now.items c.index_mut.result.now c.requires.names c.requires.at c.index_mut.ensures.value
