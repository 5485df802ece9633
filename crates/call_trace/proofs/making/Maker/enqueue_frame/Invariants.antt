use Rattle.std.proofs.Common.{◌≡◌}
use Rattle.call_trace.specs.Making.{with_packets}
use Rattle.call_trace.specs.Makers.{making, IsCounted}
use Rattle.call_trace.proofs.making.Maker.enqueue_frame.Given as goal

abbrev pub invariant-loop : goal.invariant-loop
invariant-loop l = record {
  making : making l.self ≡ with_packets l.t l.size l.counter (making l.initial.self);
  counted : IsCounted l.self;
}
