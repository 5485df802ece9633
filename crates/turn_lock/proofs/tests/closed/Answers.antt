use Rattle.std.proofs.Common.{◌≡◌, arith, sym, subst}
use Rattle.std.specs.List.{All}
use Rattle.turn_lock.specs.Seats.{HasEvery}
use Rattle.turn_lock.proofs.Names.{all_of_turn, every_of_turn, count_of_turn}
use Rattle.turn_lock.proofs.tests.closed.Goals as goal

pub from_vec-requires : goal.from_vec-requires
from_vec-requires c = let n = count_of_turn c.args.turn.of c.args.turn.seats c.args.seats.items c.requires.names in omega (arith, c.args.seats.ok.0, n, c.requires.most)

pub close-requires-clause-of : goal.close-requires-clause-of
close-requires-clause-of c = subst (λ l. All (λ s. s.of ≡ c.args.turn.of) l.items) (sym c.from_vec.ensures) (all_of_turn c.args.turn.of c.args.turn.seats c.args.seats.items c.requires.names)

pub close-requires-clause-every : goal.close-requires-clause-every
close-requires-clause-every c = subst (λ l. HasEvery c.args.turn.seats l.items) (sym c.from_vec.ensures) (every_of_turn c.args.turn.of c.args.turn.seats c.args.seats.items c.requires.names)
