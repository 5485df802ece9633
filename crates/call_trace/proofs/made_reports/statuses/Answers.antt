use Rattle.std.proofs.Common.{◌≡◌, ◌∙◌, ap, sym, ◌++◌, ◌∷◌, [], None, get_or, drop, append_assoc, arith}
use Rattle.std.proofs.lemmas.List.{at_drop_all, append-nil}
use Rattle.gcc_units.specs.Listed.{bare}
use Rattle.call_trace.specs.MadeReports.{status, statuses}
use Rattle.call_trace.proofs.Arriving.{statuses-more, statuses-nil, before-near, delta-near}
use Rattle.call_trace.proofs.made_reports.statuses.Goals as goal

pub status-requires-clause-near : goal.status-requires-clause-near
status-requires-clause-near c =
    delta-near c.args.first c.loop-arrival.before (get_or c.args.arrivals.now c.loop-arrival.arrival-index None) c.loop-arrival.invariant.near
    (c.requires.near c.loop-arrival.arrival-index None c.loop-arrival-test.true)

pub loop-arrival-preserved : goal.loop-arrival-preserved
loop-arrival-preserved c =
    let there = get_or c.args.arrivals.now c.loop-arrival.arrival-index None in
    let i = c.loop-arrival.arrival-index in
    record {
      made =
          rw (c.push_reserved.ensures.items, c.status.ensures, c.unwrap_or-before.ensures)
          (append_assoc c.loop-arrival.statuses.items (status c.loop-arrival.before there ∷ []) _
          ∙ (ap (λ xs. c.loop-arrival.statuses.items ++ xs) (sym (statuses-more c.loop-arrival.before c.args.arrivals.now i c.loop-arrival-test.true)) ∙ c.loop-arrival.invariant.made));
      near = rw c.unwrap_or-before.ensures (before-near c.args.first c.loop-arrival.before there c.loop-arrival.invariant.near (c.requires.near i None c.loop-arrival-test.true));
      len = omega (arith, c.push_reserved.ensures.len, c.loop-arrival.invariant.len);
      room = c.push_reserved.ensures.capacity ∙ c.loop-arrival.invariant.room;
    }

pub returns : goal.returns
returns c =
    let none : statuses c.loop-arrival.before (drop c.loop-arrival.arrival-index c.args.arrivals.now) ≡ []
    = at_drop_all (statuses c.loop-arrival.before) c.args.arrivals.now c.loop-arrival.arrival-index c.loop-arrival-test.false ∙ statuses-nil c.loop-arrival.before in
    c.from_vec.ensures ∙ ap bare (sym (append-nil c.loop-arrival.statuses.items) ∙ (ap (λ xs. c.loop-arrival.statuses.items ++ xs) (sym none) ∙ c.loop-arrival.invariant.made))
