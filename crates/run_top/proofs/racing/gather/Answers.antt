use Rattle.std.proofs.Common.{◌++◌, inl, inr, List, sym, ap, ◌∙◌}
use Rattle.run_top.specs.declared.workers.Worker.{Worker}
use Rattle.run_top.proofs.Ending.{seats_more, glances_more, done_more, full_more}
use Rattle.run_top.proofs.racing.gather.Goals as goal

pub loop-worker-preserved : goal.loop-worker-preserved
loop-worker-preserved c =
    let w : Worker = c.in-Some.worker in
    let before : List Worker = c.loop-worker.yielded in
    let held = c.loop-worker.invariant in
    let e = c.in_ok-take_in.ensures in
    record {
      seats = e.seats ∙ sym (seats_more before w _ (sym held.seats));
      glances = e.glances ∙ (ap (λ gs. gs ++ w.glances.items) held.glances ∙ sym (glances_more before w));
      done = λ is. let both = e.none is in done_more before w (held.done both.0) both.1;
      full = λ is. full_more before w (elim (e.full is) [ inl p ↦ inl (held.full p) | inr p ↦ inr p ]);
    }
