use Rattle.std.proofs.Common.{◌∙◌, sym, arith}
use Rattle.call_trace.proofs.Framing.{lines-more}
use Rattle.call_trace.proofs.making.lines_of.Goals as goal

pub loop-k-preserved : goal.loop-k-preserved
loop-k-preserved c = record {
  made =
      c.push_reserved.ensures.items
      ∙ lines-more c.args.actors c.args.journal.now.items c.loop-k.k c.in-Some.entry.now c.in_ok-line_of.field-0 c.loop-k.lines.items (sym c.in-Some.ensures) c.in_ok-line_of.ensures c.loop-k.invariant.made;
  len = omega (arith, c.push_reserved.ensures.len, c.loop-k.invariant.len);
  room = c.push_reserved.ensures.capacity ∙ c.loop-k.invariant.room;
}
