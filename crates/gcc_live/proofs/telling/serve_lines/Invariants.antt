use Rattle.std.proofs.Common.{◌≤◌, length}
use Rattle.gcc_live.specs.Telling.{AreTold}
use Rattle.gcc_live.proofs.telling.serve_lines.Given as goal

abbrev pub invariant-loop-line : goal.invariant-loop-line
invariant-loop-line l = AreTold l.sender l.told l.yielded × (l.told.calls ≤ length l.yielded)
