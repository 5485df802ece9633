use Rattle.std.proofs.Common.{◌≡◌, take, map, length, vec_len, vec_capacity}
use Rattle.call_trace.specs.Making.{line_of}
use Rattle.call_trace.proofs.making.lines_of.Given as goal

abbrev pub invariant-loop-k : goal.invariant-loop-k
invariant-loop-k l = record {
  made : l.lines.items ≡ map (line_of l.actors) (take l.k l.journal.items);
  len : vec_len l.lines ≡ l.k;
  room : vec_capacity l.lines ≡ length l.journal.items;
}
