use Rattle.std.proofs.Common.{◌≡◌, map, take}
use Rattle.std.specs.List.{All}
use Rattle.serde_json.specs.View.{view}
use Rattle.call_trace.specs.Settings.{IsSmallStream}
use Rattle.call_trace.specs.Written.{stream_json}
use Rattle.call_trace.proofs.change_value.streams_value.Given as goal

abbrev pub invariant-loop-stream : goal.invariant-loop-stream
invariant-loop-stream l = record {
  written : map view l.list.items ≡ map stream_json (take l.stream-index l.streams);
  small : All IsSmallStream (take l.stream-index l.streams);
}
