use Rattle.std.proofs.Common.{◌≡◌, ◌*◌, ◌≤◌, take}
use Rattle.gcc_units.specs.declared.limits.TheConstants.{GREATEST_RATE}
use Rattle.allocator.specs.Shares.{enforced_minima}
use Rattle.allocator.proofs.shares.enforced_minima.Given as goal

abbrev pub invariant-loop-stream : goal.invariant-loop-stream
invariant-loop-stream l = record {
  minima : l.minima ≡ enforced_minima (take l.stream-index l.streams);
  bound : l.minima ≤ l.stream-index * GREATEST_RATE;
}
