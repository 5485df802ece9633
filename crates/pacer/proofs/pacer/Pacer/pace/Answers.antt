use Rattle.std.proofs.Common.{not, All, subst, sym}
use Rattle.std.proofs.lemmas.List.Elements.{All-filter}
use Rattle.pace_queues.specs.declared.ticket.Ticket.{Ticket}
use Rattle.pacer.specs.Pace.{names}
use Rattle.pacer.specs.State.{IsDue}
use Rattle.pacer.proofs.pacer.Pacer.pace.Goals as goal

pub invariant_of-self : goal.invariant_of-self
invariant_of-self c = record {
  in_time = c.self.invariant.in_time;
  due = subst (λ ts. All (IsDue c.self.inside.moment) ts) (sym c.run.ensures.queue)
      (All-filter (λ (t : Ticket). not (names t.index c.run.new.out.items)) (IsDue c.self.inside.moment) c.self.inside.course.queues c.self.invariant.due);
  pacing = c.self.invariant.pacing;
  rate = c.self.invariant.rate;
}
