use Rattle.std.proofs.Common.{◌≡◌}
use Rattle.run_io.proofs.streams.StdSinkSink.write.Given as goal

abbrev pub invariant-loop : goal.invariant-loop
invariant-loop l = l.self-inside.faults ≡ l.fn.self
