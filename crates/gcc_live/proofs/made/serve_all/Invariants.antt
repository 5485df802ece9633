use Rattle.std.proofs.Common.{◌≡◌, ◌*◌, ◌≤◌, length}
use Rattle.live_sender.specs.Live.{StandsFor}
use Rattle.call_trace.specs.Ordered.{ordered}
use Rattle.gcc_live.specs.Summing.{bytes_of}
use Rattle.gcc_live.proofs.made.serve_all.Given as goal

abbrev pub invariant-loop-line : goal.invariant-loop-line
invariant-loop-line l =
    StandsFor l.sender (ordered l.yielded) × (l.bytes ≡ bytes_of (ordered l.yielded)) × (l.bytes ≤ 18446744073709551616 * length l.yielded)
