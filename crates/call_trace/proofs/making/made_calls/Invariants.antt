use Rattle.std.proofs.Common.{◌≡◌}
use Rattle.call_trace.specs.Making.{milliseconds}
use Rattle.call_trace.specs.Makers.{making, IsCounted}
use Rattle.call_trace.proofs.making.made_calls.Given as goal

abbrev pub invariant-loop-t : goal.invariant-loop-t
invariant-loop-t l = record {
  making : making l.maker ≡ milliseconds l.seed l.calls l.t;
  counted : IsCounted l.maker;
}
