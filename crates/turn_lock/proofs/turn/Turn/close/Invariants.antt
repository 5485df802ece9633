use Rattle.std.proofs.Common.{◌≡◌, List, ◌++◌, length}
use Rattle.std.specs.List.{All}
use Rattle.turn_lock.specs.Plays.{Idle}
use Rattle.turn_lock.specs.Seats.{SeatIs}
use Rattle.turn_lock.proofs.Lists.{KeepsSeat}
use Rattle.turn_lock.proofs.turn.Turn.close.Given as goal

abbrev pub invariant-loop-seat : goal.invariant-loop-seat
invariant-loop-seat g l = record {
  of : l.place.table_id ≡ l.fn.self.of;
  idle : Idle l.place.me;
  rest : All (λ s. s.of ≡ l.fn.self.of) l.seats.items;
  done : (done : List (SeatIs g.row.T-Call.Denot g.row.T-Reply.Denot)) × (l.fn.seats.items ≡ l.seats.items ++ done) × All (KeepsSeat l.place.me.0) done;
}

abbrev pub decreases-loop-seat : goal.decreases-loop-seat
decreases-loop-seat g l = length l.seats.items
