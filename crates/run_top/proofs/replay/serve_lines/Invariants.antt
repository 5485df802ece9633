use Rattle.std.proofs.Common.{◌≡◌, ◌≤◌, [], length}
use Rattle.call_trace.specs.Ordered.{ordered}
use Rattle.run_top.specs.Replay.{seen_from}
use Rattle.run_top.proofs.replay.serve_lines.Given as goal

abbrev pub invariant-loop-line : goal.invariant-loop-line
invariant-loop-line l =
    (l.sender ≡ ordered l.yielded) × (l.seen.items ≡ seen_from [] l.yielded) × (length l.sender ≤ length l.yielded)
