use Rattle.std.proofs.Common.{arith}
use Rattle.sent_history.proofs.Stretched.{no_slot, none_left, one_found}
use Rattle.sent_history.proofs.lost.missing_in.Goals as goal

pub returns-then-place-to-clause-count : goal.returns-then-place-to-clause-count
returns-then-place-to-clause-count c =
    omega (
      arith,
      c.loop-at.invariant.all,
      none_left c.args.slots.now c.loop-at.at c.args.to c.next_fresh-place.result no_slot c.next_fresh-place.ensures.low c.if-place-to.true c.requires.inside c.next_fresh-place.ensures.none,
    )

pub loop-at-preserved : goal.loop-at-preserved
loop-at-preserved c = record {
  low = omega (arith, c.loop-at.invariant.low, c.next_fresh-place.ensures.low);
  high = omega (arith, c.next_fresh-place.ensures.high, c.if-place-to.false);
  few = omega (arith, c.loop-at.invariant.few, c.loop-at.invariant.low, c.next_fresh-place.ensures.low);
  all = omega (
    arith,
    c.loop-at.invariant.all,
    one_found c.args.slots.now c.loop-at.at c.args.to c.next_fresh-place.result no_slot c.next_fresh-place.ensures.low
        (omega (arith, c.next_fresh-place.ensures.high, c.if-place-to.false)) c.requires.inside c.next_fresh-place.ensures.none
        (c.next_fresh-place.ensures.found no_slot (omega (arith, c.next_fresh-place.ensures.high, c.if-place-to.false))),
  );
}
