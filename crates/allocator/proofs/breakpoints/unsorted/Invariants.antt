use Rattle.std.proofs.Common.{◌≡◌, ◌++◌, drop}
use Rattle.allocator.specs.Breakpoints.{breakpoints_from}
use Rattle.allocator.proofs.breakpoints.unsorted.Given as goal

abbrev pub invariant-loop-place : goal.invariant-loop-place
invariant-loop-place l = l.points.items ++ breakpoints_from l.place (drop l.place l.ordered) ≡ breakpoints_from 0 l.ordered
