use Rattle.std.proofs.Common.{◌≡◌, ◌≤◌, ◌++◌, ℕ, List, length}
use Rattle.run_io.specs.Growth.{Grew}
use Rattle.run_top.proofs.writing.write_all.Given as goal

abbrev pub invariant-loop-rest : goal.invariant-loop-rest
invariant-loop-rest g l =
    ((begun : List ℕ) × (begun ++ l.rest ≡ l.text) × Grew (g.K.Sink.written l.fn.sink) (g.K.Sink.written l.sink) begun)
    × (g.K.Sink.faults l.fn.sink ≤ g.K.Sink.faults l.sink)

abbrev pub decreases-loop-rest : goal.decreases-loop-rest
decreases-loop-rest g l = length l.rest
