use Rattle.std.proofs.Common.{◌≡◌, ◌+◌, ◌++◌, ◌∷◌, [], length, length-append, map, All, List, refl, sym, ap, subst, ◌∙◌, arith}
use Rattle.gcc_units.specs.Listed.{Listed}
use Rattle.reply_text.specs.declared.seen.Seen.{Seen}
use Rattle.run_top.specs.declared.workers.Worker.{Worker}
use Rattle.run_top.specs.declared.workers.Stop.TheVariants as stop
use Rattle.run_top.specs.Racing.{IsFresh, seat_of, actor_of}
use Rattle.run_top.proofs.Ending.{seats_more, actors_more, fresh_more}
use Rattle.run_top.proofs.racing.seated.Goals as goal

pub loop-seat-preserved : goal.loop-seat-preserved
loop-seat-preserved c =
    let w : Worker = record { actor = c.loop-seat.actor; seat = c.in-Some.seat; glances = c.new.result; stop = stop.No } in
    let before : List Worker = c.loop-seat.workers.items in
    let pushed : c.push.new.self.items ≡ before ++ w ∷ [] = c.in-Ok.ensures.items in
    let longer : length (c.loop-seat.yielded ++ c.in-Some.seat ∷ []) ≡ length c.loop-seat.yielded + 1 = length-append c.loop-seat.yielded (c.in-Some.seat ∷ []) in
    record {
      seats = ap (map seat_of) pushed ∙ seats_more before w c.loop-seat.yielded c.loop-seat.invariant.seats;
      actors = ap (map actor_of) pushed ∙ actors_more before w (length c.loop-seat.yielded) _ c.loop-seat.invariant.actors c.loop-seat.invariant.count longer;
      fresh = subst (All IsFresh) (sym pushed) (fresh_more before w c.loop-seat.invariant.fresh (ap (λ (l : Listed Seen). l.items) c.new.ensures, refl));
      count = omega (arith, longer, c.loop-seat.invariant.count);
    }
