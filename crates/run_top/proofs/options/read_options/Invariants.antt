use Rattle.run_top.proofs.Taking.{AreTaken}
use Rattle.run_top.proofs.options.read_options.Given as goal

abbrev pub invariant-loop-place : goal.invariant-loop-place
invariant-loop-place g l = AreTaken l.place-end l.place l.fn.words l.options l.rest
