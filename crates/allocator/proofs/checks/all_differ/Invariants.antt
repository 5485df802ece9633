use Rattle.std.proofs.Common.{◌≡◌, drop}
use Rattle.allocator.specs.Streams.{all_differ}
use Rattle.allocator.proofs.checks.all_differ.Given as goal

abbrev pub invariant-loop-i : goal.invariant-loop-i
invariant-loop-i l = all_differ (drop l.i l.ids) ≡ all_differ l.ids
