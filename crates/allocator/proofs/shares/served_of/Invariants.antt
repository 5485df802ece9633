use Rattle.std.proofs.Common.{◌≡◌, ◌+◌, ◌*◌, ◌≤◌, ◌++◌, length, drop, All}
use Rattle.gcc_units.specs.declared.limits.TheConstants.{GREATEST_RATE, MOST_STREAMS}
use Rattle.allocator.specs.Streams.{IsSound}
use Rattle.allocator.specs.Shares.{served, served_beside}
use Rattle.allocator.specs.Breakpoints.{are_served, are_served_beside}
use Rattle.allocator.proofs.shares.served_of.Given as goal

abbrev pub invariant-loop-stream : goal.invariant-loop-stream
invariant-loop-stream l = record {
  served : l.streams.items ++ served_beside l.total l.minima (drop l.stream-index l.ordered) ≡ served l.total l.ordered;
  marks : l.marks.items ++ are_served_beside l.total l.minima (drop l.stream-index l.ordered) ≡ are_served l.total l.ordered;
  sound : All IsSound l.streams.items;
  few : length l.streams.items ≤ l.stream-index;
  few_marks : length l.marks.items ≡ l.stream-index;
  bound : l.minima ≤ (MOST_STREAMS + l.stream-index) * GREATEST_RATE;
}
