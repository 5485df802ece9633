use Rattle.std.proofs.Common.{◌≡◌, [], length}
use Rattle.nack_rtx.specs.Naming.{named_in}
use Rattle.nack_rtx.specs.Running.{adding}
use Rattle.nack_rtx.proofs.reading.read_pairs.Given as goal

-- what the rest names comes behind what was named
abbrev pub invariant-loop-rest : goal.invariant-loop-rest
invariant-loop-rest l = adding l.named (named_in l.rest) ≡ adding [] (named_in l.pairs)

abbrev pub decreases-loop-rest : goal.decreases-loop-rest
decreases-loop-rest l = length l.rest
