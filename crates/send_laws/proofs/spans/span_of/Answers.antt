use Rattle.std.proofs.Common.{arith}
use Rattle.std.proofs.lemmas.Int.{ints}
use Rattle.send_laws.proofs.Spanning.{span-bound}
use Rattle.send_laws.proofs.spans.span_of.Goals as goal

pub returns-clause-bound : goal.returns-clause-bound
returns-clause-bound c =
    omega (
      arith,
      ints,
      c.integral_over.ensures,
      c.window_before.ensures,
      c.counted_over-counted.ensures.bytes,
      c.counted_over-counted.ensures.last,
      span-bound c.args.budget c.args.journal.now.items c.args.i c.args.j c.requires.order c.requires.within c.requires.legal.each,
    )
