use Rattle.std.proofs.Common.{◌≡◌, ◌++◌, map, take}
use Rattle.std.specs.String.{string_bytes}
use Rattle.std.specs.List.{All, flat_map}
use Rattle.call_trace.specs.Fields.{fed}
use Rattle.call_trace.specs.Written.{line_text, IsSpelled}
use Rattle.call_trace.proofs.writing.push_lines.Given as goal

abbrev pub invariant-loop-line : goal.invariant-loop-line
invariant-loop-line l = record {
  written : string_bytes l.text ≡ string_bytes l.fn.text ++ flat_map fed (map line_text (take l.line-index l.lines));
  spells : All (λ line. IsSpelled line.actor line.action) (take l.line-index l.lines);
}
