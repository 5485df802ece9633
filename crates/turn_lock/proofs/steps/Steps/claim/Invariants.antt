use Rattle.std.proofs.Common.{◌≡◌, ℕ, ◌%◌, ◌^◌, []}
use Rattle.turn_lock.specs.Plays.{with_ticket}
use Rattle.turn_lock.proofs.steps.Steps.claim.Given as goal

abbrev pub invariant-loop : goal.invariant-loop
invariant-loop g l = record {
  same : (l.place.table_id ≡ l.fn.place.table_id) × (l.place.id ≡ l.fn.place.id);
  waits : (t : ℕ) × (t % 2 ^ 64 ≡ l.ticket) × (l.place.me ≡ (with_ticket t l.fn.place.me.0, []));
}
