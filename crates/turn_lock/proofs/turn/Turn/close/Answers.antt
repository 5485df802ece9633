use Rattle.std.proofs.Common.{◌≡◌, ◌∷◌, [], ◌++◌, ◌<◌, sym, ap, subst, ◌∙◌, append_assoc}
use Rattle.std.specs.List.{All}
use Rattle.turn_lock.specs.Rule.{Lawful}
use Rattle.turn_lock.proofs.Lists.{KeepsSeat, all_of_last, keeps_first, keeps_more, all_done, still_idle, every_kept, all_seen, all_mine}
use Rattle.turn_lock.proofs.turn.Turn.close.Goals as goal

pub loop-seat-init : goal.loop-seat-init
loop-seat-init g c = let p = all_of_last (λ s. s.of ≡ c.args.self.of) c.args.seats.items c.pop.new.self.items c.in-Some.last c.in-Some.ensures.some c.requires.of in record {
  of = ap (λ s. s.of) c.last.view_is ∙ p.1;
  idle = c.last.invariant.0;
  rest = p.0;
  done = (c.in-Some.last ∷ [], c.in-Some.ensures.some, subst (λ s. All (KeepsSeat c.last.inside.place.me.0) (s ∷ [])) c.last.view_is (keeps_first c.last.inside.place.table_id c.last.inside.number c.last.inside.place.me.0 c.last.invariant.1));
}

pub absorb-requires-clause-of : goal.absorb-requires-clause-of
absorb-requires-clause-of g c = let i = c.loop-seat.invariant in
    let p = all_of_last (λ s. s.of ≡ c.args.self.of) c.loop-seat.seats.items c.pop-in-loop-seat.new.self.items c.in-Some-pop.seat c.in-Some-pop.ensures.some i.rest in
    let here = sym (ap (λ t. t.of) c.self.view_is) in
    (i.of ∙ here, ap (λ s. s.of) c.seat.view_is ∙ (p.1 ∙ here))

pub loop-seat-preserved : goal.loop-seat-preserved
loop-seat-preserved g c = let i = c.loop-seat.invariant in
    let p = all_of_last (λ s. s.of ≡ c.args.self.of) c.loop-seat.seats.items c.pop-in-loop-seat.new.self.items c.in-Some-pop.seat c.in-Some-pop.ensures.some i.rest in
    let a = c.absorb.ensures.absorbed in
    let legal = Lawful g.T.Object.legal g.T.Object.board_of in
    let old = c.loop-seat.place.me in
    let other = c.seat.inside.place.me in
    let new = c.absorb.new.place.me in record {
      of = c.absorb.ensures.of ∙ i.of;
      idle = still_idle legal old other new a i.idle;
      rest = p.0;
      done = (
        c.in-Some-pop.seat ∷ i.done.0,
        i.done.1 ∙ (ap (λ l. l ++ i.done.0) c.in-Some-pop.ensures.some ∙ append_assoc c.pop-in-loop-seat.new.self.items (c.in-Some-pop.seat ∷ []) i.done.0),
        subst (λ s. All (KeepsSeat new.0) (s ∷ i.done.0)) c.seat.view_is (keeps_more legal i.done.0 old other new c.seat.inside.place.table_id c.seat.inside.number a c.seat.invariant.1 i.done.2),
      );
    }

pub end-value-requires-clause-every : goal.end-value-requires-clause-every
end-value-requires-clause-every g c = let d = c.loop-seat.invariant.done in let v = c.loop-seat.place.me.0 in
    let all = all_done (KeepsSeat v) c.args.seats.items c.loop-seat.seats.items d.0 d.1 c.in_default-pop.ensures.none.0 d.2 in
    λ n below. every_kept c.args.self.seats c.args.seats.items v c.requires.every all n (subst (λ k. n < k) (ap (λ t. t.seats) c.self.view_is) below)

pub returns-clause-seen : goal.returns-clause-seen
returns-clause-seen g c = let d = c.loop-seat.invariant.done in let v = c.loop-seat.place.me.0 in
    let all = all_done (KeepsSeat v) c.args.seats.items c.loop-seat.seats.items d.0 d.1 c.in_default-pop.ensures.none.0 d.2 in
    all_seen c.self.inside.steps.table.shared.key (g.T.Object.history c.end-value.result) c.args.seats.items v c.end-value.ensures all

pub returns-clause-mine : goal.returns-clause-mine
returns-clause-mine g c = let d = c.loop-seat.invariant.done in let v = c.loop-seat.place.me.0 in
    let all = all_done (KeepsSeat v) c.args.seats.items c.loop-seat.seats.items d.0 d.1 c.in_default-pop.ensures.none.0 d.2 in
    all_mine c.self.inside.steps.table.shared.key (g.T.Object.history c.end-value.result) c.args.seats.items v c.end-value.ensures all
