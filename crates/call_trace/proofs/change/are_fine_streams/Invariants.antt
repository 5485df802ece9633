use Rattle.std.proofs.Common.{drop}
use Rattle.call_trace.proofs.Listing.{IsFineSoFar}
use Rattle.call_trace.proofs.change.are_fine_streams.Given as goal

abbrev pub invariant-loop-value : goal.invariant-loop-value
invariant-loop-value l = IsFineSoFar (drop l.value-index l.value-items) l.value-items
