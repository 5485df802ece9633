use Rattle.std.proofs.Common.{◌≡◌}
use Rattle.std.specs.String.{string_bytes}
use Rattle.gcc_live.specs.Summing.{lines_of}
use Rattle.gcc_live.proofs.made.run_made.Given as goal

abbrev pub invariant-loop-k : goal.invariant-loop-k
invariant-loop-k l = string_bytes l.text ≡ lines_of l.k l.calls l.seed
