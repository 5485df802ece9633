use Rattle.std.proofs.Common.{◌≡◌, ◌*◌, ◌≤◌, take}
use Rattle.gcc_units.specs.declared.limits.TheConstants.{GREATEST_RATE}
use Rattle.allocator.specs.Shares.{sum_at}
use Rattle.allocator.proofs.shares.sum_at.Given as goal

abbrev pub invariant-loop-stream : goal.invariant-loop-stream
invariant-loop-stream l = record {
  sum : l.sum ≡ sum_at l.level (take l.stream-index l.streams);
  bound : l.sum ≤ l.stream-index * GREATEST_RATE;
}
