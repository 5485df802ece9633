use Rattle.std.proofs.Common.{◌≡◌, ◌≤◌, ℕ, List, length, sym, ap, subst, ◌∙◌}
use Rattle.std.specs.List.{range_with_len}
use Rattle.std.proofs.lemmas.List.FromFn.{length-map-range_with_len}
use Rattle.send_core.specs.declared.call.Call.{Call}
use Rattle.send_core.specs.declared.call.Answer.{Answer}
use Rattle.turn_lock.specs.Seats.{HasEvery, new_seat}
use Rattle.turn_lock.specs.Names.{names, all_names}
use Rattle.turn_lock.proofs.Names.{all_of_turn, every_of_turn}
use Rattle.run_top.specs.declared.workers.Worker.{Worker}
use Rattle.call_trace.specs.declared.trace.Line.{Line}
use Rattle.run_top.specs.Racing.{AreWorked, keys}
use Rattle.run_top.proofs.Ending.{all_ready, keys_made, keys_of_seats, closing, merged, all_glances, never_full, IsClosed}
use Rattle.run_top.proofs.racing.race.Goals as goal

pub worked-workers-requires-clause-ready : goal.worked-workers-requires-clause-ready
worked-workers-requires-clause-ready g c κs within =
    let n : ℕ = c.args.trace.now.actors in
    let as_many : length c.in-Ok.seats.items ≡ n =
    ap length c.in-Ok.ensures.seats ∙ length-map-range_with_len (new_seat {C = Call} {R = Answer} c.in-Ok.shared.of) 0 n in
    all_ready c.in-Ok.shared.of n c.in_ok-workers.workers.items (c.in_ok-workers.ensures.seats ∙ c.in-Ok.ensures.seats)
    (c.in_ok-workers.ensures.actors ∙ ap (range_with_len 0) as_many) c.in_ok-workers.ensures.fresh

pub close-requires-clause-of : goal.close-requires-clause-of
close-requires-clause-of g c =
    let n : ℕ = c.args.trace.now.actors in
    let e : keys c.worked-workers.result.items ≡ all_names c.in-Ok.shared.of n =
    c.worked-workers.ensures.keys ∙ keys_made c.in-Ok.shared.of n c.in_ok-workers.workers.items (c.in_ok-workers.ensures.seats ∙ c.in-Ok.ensures.seats) in
    let named : names c.in_ok-seats.field-0.seats.items ≡ all_names c.in-Ok.shared.of n =
    ap names c.in_ok-seats.ensures.seats ∙ (keys_of_seats c.worked-workers.result.items ∙ e) in
    all_of_turn c.in-Ok.shared.of n c.in_ok-seats.field-0.seats.items named

pub close-requires-clause-every : goal.close-requires-clause-every
close-requires-clause-every g c =
    let n : ℕ = c.args.trace.now.actors in
    let e : keys c.worked-workers.result.items ≡ all_names c.in-Ok.shared.of n =
    c.worked-workers.ensures.keys ∙ keys_made c.in-Ok.shared.of n c.in_ok-workers.workers.items (c.in_ok-workers.ensures.seats ∙ c.in-Ok.ensures.seats) in
    let named : names c.in_ok-seats.field-0.seats.items ≡ all_names c.in-Ok.shared.of n =
    ap names c.in_ok-seats.ensures.seats ∙ (keys_of_seats c.worked-workers.result.items ∙ e) in
    subst (λ m. HasEvery m c.in_ok-seats.field-0.seats.items) (sym c.in-Ok.ensures.count) (every_of_turn c.in-Ok.shared.of n c.in_ok-seats.field-0.seats.items named)

pub unreachable-requires : goal.unreachable-requires
unreachable-requires g c =
    let n : ℕ = c.args.trace.now.actors in
    let lines : List Line = c.args.trace.now.lines.items in
    let workers : List Worker = c.worked-workers.result.items in
    let made = keys_made c.in-Ok.shared.of n c.in_ok-workers.workers.items (c.in_ok-workers.ensures.seats ∙ c.in-Ok.ensures.seats) in
    let closed : IsClosed lines n workers c.in-Ok-close.sender =
    closing c.in-Ok.shared.of lines n workers c.in_ok-seats.field-0.seats.items c.in-Ok-close.sender
    (c.worked-workers.ensures.keys ∙ made) (subst (λ ls. AreWorked ls workers) c.as_slice.ensures.items c.worked-workers.ensures.worked).each
    c.in_ok-seats.ensures.seats c.in-Ok-close.ensures.seen c.in-Ok-close.ensures.mine
    (λ k past. c.in-Ok-close.ensures.others k (subst (λ m. m ≤ k) (sym c.in-Ok.ensures.count) past)) c.requires.each in
    never_full lines n workers c.in-Ok-close.sender closed c.requires.few_lines (c.in_ok-seats.ensures.full c.in-Full.is)

pub returns-in-No : goal.returns-in-No
returns-in-No g c =
    let n : ℕ = c.args.trace.now.actors in
    let lines : List Line = c.args.trace.now.lines.items in
    let workers : List Worker = c.worked-workers.result.items in
    let made = keys_made c.in-Ok.shared.of n c.in_ok-workers.workers.items (c.in_ok-workers.ensures.seats ∙ c.in-Ok.ensures.seats) in
    let closed : IsClosed lines n workers c.in-Ok-close.sender =
    closing c.in-Ok.shared.of lines n workers c.in_ok-seats.field-0.seats.items c.in-Ok-close.sender
    (c.worked-workers.ensures.keys ∙ made) (subst (λ ls. AreWorked ls workers) c.as_slice.ensures.items c.worked-workers.ensures.worked).each
    c.in_ok-seats.ensures.seats c.in-Ok-close.ensures.seen c.in-Ok-close.ensures.mine
    (λ k past. c.in-Ok-close.ensures.others k (subst (λ m. m ≤ k) (sym c.in-Ok.ensures.count) past)) c.requires.each in
    let done = c.in_ok-seats.ensures.done c.in-No.is in
    record {
      legal = c.in-Ok-close.ensures.legal;
      merges = merged lines n workers c.in-Ok-close.sender closed done;
      glances = all_glances lines n workers c.in-Ok-close.sender c.in_ok-seats.field-0.glances.items closed done c.in_ok-seats.ensures.glances;
    }
