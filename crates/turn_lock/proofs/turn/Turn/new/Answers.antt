use Rattle.std.proofs.Common.{ap, ◌∙◌, arith}
use Rattle.turn_lock.specs.Seats.{seat_is}
use Rattle.turn_lock.proofs.Lists.{first_idle, is_new, is_first, is_giver, one_more, all_made}
use Rattle.turn_lock.proofs.turn.Turn.new.Goals as goal

pub loop-number-preserved : goal.loop-number-preserved
loop-number-preserved g c = let i = c.loop-number.invariant in let w = c.grow-place.ensures in let p = c.push_reserved.ensures in let id = c.in_ok-steps.steps.table.shared.table_id in record {
  low = omega arith;
  high = omega arith;
  room = omega (arith, p.capacity);
  count = omega (arith, p.len);
  items = one_more id c.loop-number.number c.loop-number.list.items c.push_reserved.new.self.items (seat_is c.grow-place.result.table_id c.loop-number.number c.grow-place.result.me.0) i.low p.items i.items
      (is_new id c.grow-place.result.table_id c.loop-number.number c.grow-place.result.me c.loop-number.first.me (w.new.0 ∙ i.of) w.new.1 i.me);
  key = i.key;
  of = w.of ∙ i.of;
  me = is_giver c.loop-number.number c.loop-number.first.me c.grow-place.new.place.me w.grown i.me;
}

pub invariant_of-first : goal.invariant_of-first
invariant_of-first g c = first_idle c.loop-number.number c.loop-number.first.me c.loop-number.invariant.me

pub returns-clause-seats : goal.returns-clause-seats
returns-clause-seats g c = let i = c.loop-number.invariant in let f = c.loop-number.first in let id = c.in_ok-steps.steps.table.shared.table_id in
    ap (λ l. l.items) c.from_vec.ensures
    ∙ all_made id c.loop-number.number c.args.seats c.loop-number.list.items c.in_front-list.result.items (seat_is f.table_id 0 f.me.0) c.in_front-list.ensures i.items
    (is_first id f.table_id c.loop-number.number f.me i.of i.me) (omega arith) c.requires.some
