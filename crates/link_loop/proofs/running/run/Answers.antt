use Rattle.std.proofs.Common.{sym, subst}
use Rattle.link_loop.specs.Looping.{looping}
use Rattle.link_loop.specs.Kept.{IsAt}
use Rattle.link_loop.proofs.Frames.{looping-none, looping-more}
use Rattle.link_loop.proofs.Order.{order-looping}
use Rattle.link_loop.proofs.running.run.Goals as goal

pub loop-t-init : goal.loop-t-init
loop-t-init c = record {
  at = subst (IsAt c.in_ok-looper.looper c.args.settings) (looping-none c.args.settings) c.in_ok-looper.ensures.at;
  sound = c.in_ok-looper.ensures.sound;
}

pub millisecond-requires-clause-ready : goal.millisecond-requires-clause-ready
millisecond-requires-clause-ready c =
    record {
      settings = c.args.settings;
      so_far = looping c.args.settings c.loop-t.t;
      at = c.loop-t.invariant.at;
      order = order-looping c.args.settings c.loop-t.t c.requires.settings;
    }

pub loop-t-preserved : goal.loop-t-preserved
loop-t-preserved c = record {
  at =
      subst (IsAt c.millisecond.new.looper c.args.settings) (sym (looping-more c.args.settings c.loop-t.t))
      (c.in_ok-millisecond.ensures.at c.args.settings (looping c.args.settings c.loop-t.t) c.loop-t.invariant.at);
  sound = c.in_ok-millisecond.ensures.sound;
}
