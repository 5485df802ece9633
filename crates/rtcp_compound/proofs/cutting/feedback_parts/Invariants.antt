use Rattle.std.proofs.Common.{length}
use Rattle.rtcp_compound.proofs.SoFar.{IsSoFar}
use Rattle.rtcp_compound.proofs.cutting.feedback_parts.Given as goal

abbrev pub invariant-loop-rest : goal.invariant-loop-rest
invariant-loop-rest l = IsSoFar l.bytes l.parts.items l.rest

abbrev pub decreases-loop-rest : goal.decreases-loop-rest
decreases-loop-rest l = length l.rest
