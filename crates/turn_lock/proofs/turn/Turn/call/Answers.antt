use Rattle.std.proofs.Common.{◌%◌, sym, refl, ap, ◌∙◌}
use Rattle.gcc_units.specs.declared.limits.TheConstants.{BOARD_LENGTHS}
use Rattle.turn_lock.specs.Rule.{Lawful}
use Rattle.turn_lock.specs.Seats.{entry}
use Rattle.turn_lock.proofs.Calls.{entry_seen, may_settle, seen_grows, own_grows}
use Rattle.turn_lock.proofs.turn.Turn.call.Goals as goal

pub settle-requires-clause-settles : goal.settle-requires-clause-settles
settle-requires-clause-settles g c = let b = c.board-board.ensures in let e = entry c.seat.inside.number c.args.call c.in-Ok.reply in (
  c.seat.inside.number,
  e,
  may_settle g.T.Object.history (Lawful g.T.Object.legal g.T.Object.board_of) g.T.Object.board_of _ _ c.seat.inside.place.me c.claim-value.new.place.me c.claim-value.result c.apply.new.self e
      c.seat.invariant.1 c.claim-value.ensures.claimed refl c.in-Ok.ensures.entry (b.legal, b.few, ap (λ n. n % BOARD_LENGTHS) (sym b.board) ∙ b.length) b.board,
)

pub returns-in-Ok-clause-seen : goal.returns-in-Ok-clause-seen
returns-in-Ok-clause-seen g c = let e = entry c.seat.inside.number c.args.call c.in-Ok.reply in
    rw (← c.seat.view_is)
    (seen_grows g.T.Object.history (Lawful g.T.Object.legal g.T.Object.board_of) c.seat.inside.place.me c.claim-value.new.place.me c.settle.new.place.me c.claim-value.result e c.claim-value.ensures.claimed
    (c.settle.ensures.settled e (entry_seen g.T.Object.history (Lawful g.T.Object.legal g.T.Object.board_of) c.seat.inside.place.me c.claim-value.new.place.me c.claim-value.result c.apply.new.self e c.claim-value.ensures.claimed c.in-Ok.ensures.entry)))

pub returns-in-Ok-clause-own : goal.returns-in-Ok-clause-own
returns-in-Ok-clause-own g c = let e = entry c.seat.inside.number c.args.call c.in-Ok.reply in
    own_grows g.T.Object.history (Lawful g.T.Object.legal g.T.Object.board_of) c.seat.inside.number c.seat.inside.place.me c.claim-value.new.place.me c.settle.new.place.me c.claim-value.result e
    c.seat.invariant.1 c.claim-value.ensures.claimed refl
    (c.settle.ensures.settled e (entry_seen g.T.Object.history (Lawful g.T.Object.legal g.T.Object.board_of) c.seat.inside.place.me c.claim-value.new.place.me c.claim-value.result c.apply.new.self e c.claim-value.ensures.claimed c.in-Ok.ensures.entry))
