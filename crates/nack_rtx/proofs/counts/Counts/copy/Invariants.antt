use Rattle.std.proofs.Common.{◌≡◌, map}
use Rattle.circular_buffer.specs.Buffer.{buffer}
use Rattle.nack_rtx.specs.declared.TheConstants.{MOST_STORED}
use Rattle.nack_rtx.proofs.counts.Counts.copy.Given as goal

abbrev pub invariant-loop-count : goal.invariant-loop-count
invariant-loop-count l = (l.more-inside.counts ≡ buffer (map (λ x. x.now) l.yielded) MOST_STORED)
