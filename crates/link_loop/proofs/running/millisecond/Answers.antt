use Rattle.std.proofs.Common.{subst}
use Rattle.std.proofs.lemmas.Result.{on_ok_weaker}
use Rattle.link_loop.specs.Kept.{IsAt}
use Rattle.link_loop.proofs.Order.{order-opening}
use Rattle.link_loop.proofs.Frames.{all-due}
use Rattle.link_loop.proofs.running.millisecond.Goals as goal

pub hand_over-requires-clause-ready : goal.hand_over-requires-clause-ready
hand_over-requires-clause-ready c =
    let ready = c.requires.ready in
    record {
      settings = ready.settings;
      so_far = _;
      at = c.in_ok-open.ensures.at ready.settings ready.so_far ready.at;
      order = order-opening ready.settings c.args.t ready.so_far ready.order;
    }

pub returns-clause-at : goal.returns-clause-at
returns-clause-at c =
    on_ok_weaker c.pace.result
    (λ paced s m h.
    subst (IsAt c.pace.new.looper s) (all-due c.args.looper.now s c.args.t m h c.if-looper.false)
    (paced s _
    (c.in_ok-enqueue_frame.ensures.at s _
    (c.in_ok-enqueue_audio.ensures.at s _
    (c.in_ok-report.ensures.at s _ (c.in_ok-hand_over.ensures.at s _ (c.in_ok-open.ensures.at s m h)))))))
    c.pace.ensures.at
