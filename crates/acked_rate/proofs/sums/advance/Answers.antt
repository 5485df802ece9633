use Rattle.std.proofs.Common.{arith, ◌<◌, length, ◌∙◌}
use Rattle.acked_rate.proofs.Rings.{moved-more}
use Rattle.acked_rate.proofs.sums.advance.Goals as goal

pub loop-i-preserved : goal.loop-i-preserved
loop-i-preserved c =
    let more : c.loop-i._i < length c.args.ring.now.items = omega (arith, c.requires.full.full) in
    record {
      full = c.step-gone.ensures.full;
      items = (rw c.loop-i.invariant.items at c.step-gone.ensures.items) ∙ moved-more c.loop-i._i c.args.ring.now.items more;
      gone = omega (arith, c.loop-i.invariant.gone, c.step-gone.ensures.gone);
    }
