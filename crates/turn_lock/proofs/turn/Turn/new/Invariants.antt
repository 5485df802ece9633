use Rattle.std.proofs.Common.{◌≡◌, ◌-◌, ◌≤◌, ◌+◌, [], vec_len}
use Rattle.std.specs.Vec.{vec_capacity}
use Rattle.turn_lock.specs.Plays.{giver}
use Rattle.turn_lock.specs.Seats.{new_seats}
use Rattle.turn_lock.proofs.turn.Turn.new.Given as goal

abbrev pub invariant-loop-number : goal.invariant-loop-number
invariant-loop-number g l = record {
  low : 1 ≤ l.number;
  high : l.number ≤ l.seats;
  room : l.seats ≤ vec_capacity l.list;
  count : vec_len l.list + 1 ≡ l.number;
  items : l.list.items ≡ new_seats l.steps.table.shared.table_id 1 (l.number - 1);
  key : l.steps.table.shared.key ≡ l.seats;
  of : l.first.table_id ≡ l.steps.table.shared.table_id;
  me : l.first.me ≡ (giver l.number, []);
}

abbrev pub decreases-loop-number : goal.decreases-loop-number
decreases-loop-number g l = l.seats - l.number
