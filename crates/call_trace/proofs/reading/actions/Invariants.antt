use Rattle.std.proofs.Common.{◌≡◌, ◌+◌, ◌≤◌, length}
use Rattle.gcc_units.specs.Listed.{bare}
use Rattle.gcc_units.specs.declared.limits.TheConstants.{MOST_LINES}
use Rattle.call_trace.specs.Fields.{lines_of}
use Rattle.call_trace.specs.Reading.{actions_at}
use Rattle.call_trace.proofs.Loop.{IsReading}
use Rattle.call_trace.proofs.reading.actions.Given as goal

abbrev pub invariant-loop-line : goal.invariant-loop-line
invariant-loop-line l = record {
  reading : IsReading MOST_LINES l.actors l.count l.lines.items l.rest (lines_of l.bytes).rest (actions_at MOST_LINES l.actors 2 (lines_of l.bytes).whole);
  bare : l.lines ≡ bare l.lines.items;
  few : l.count ≤ MOST_LINES + 2;
  count : l.count ≡ length l.lines.items + 2;
  short : length l.rest ≤ length l.bytes;
}

abbrev pub decreases-loop-line : goal.decreases-loop-line
decreases-loop-line l = length l.rest
