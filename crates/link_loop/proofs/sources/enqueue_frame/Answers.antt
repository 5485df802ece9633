use Rattle.std.proofs.Common.{◌≡◌, ◌∙◌, ap, sym, subst, arith, List}
use Rattle.send_core.specs.declared.call.Entry.{Entry}
use Rattle.send_core.specs.Estimates.{target}
use Rattle.call_trace.specs.MadePackets.{frame_packets, packet_bytes}
use Rattle.link_loop.specs.Looping.{with_packets}
use Rattle.link_loop.specs.Kept.{IsAt}
use Rattle.link_loop.proofs.Frames.{packets-none, packets-more, frame-due, frame-not_due}
use Rattle.link_loop.proofs.sources.enqueue_frame.Goals as goal

pub returns-then-not-is_frame_due-clause-at : goal.returns-then-not-is_frame_due-clause-at
returns-then-not-is_frame_due-clause-at c s m h = subst (IsAt c.args.looper.now s) (sym (frame-not_due c.args.t m (sym c.if-not-is_frame_due.ensures))) h

pub loop-i-init : goal.loop-i-init
loop-i-init c = record { at = λ s m h. subst (IsAt c.args.looper.now s) (sym (packets-none c.args.t c.frame-packets.result.1 m)) h; sound = c.requires.sound }

pub loop-i-preserved : goal.loop-i-preserved
loop-i-preserved c = record {
  at = λ s m h.
      subst (IsAt c.enqueue_video.new.looper s) (sym (packets-more c.args.t c.frame-packets.result.1 c.loop-i._i m))
      (c.in_ok-enqueue_video.ensures.at s (with_packets c.args.t c.frame-packets.result.1 c.loop-i._i m) (c.loop-i.invariant.at s m h));
  sound = c.in_ok-enqueue_video.ensures.sound;
}

pub returns-clause-at : goal.returns-clause-at
returns-clause-at c s m h =
    let rate = c.target.ensures.target ∙ ap (λ (es : List Entry). target es) h.history in
    let count : c.loop-i._i ≡ frame_packets (target m.history) = omega (arith, c.loop-i-test.false, c.loop-i.auto._i-end, c.frame-packets.ensures.packets ∙ ap frame_packets rate) in
    let bytes : c.frame-packets.result.1 ≡ packet_bytes (target m.history) = c.frame-packets.ensures.bytes ∙ ap packet_bytes rate in
    subst (IsAt c.loop-i.looper s)
    (ap (λ n. with_packets c.args.t c.frame-packets.result.1 n m) count ∙ ap (λ size. with_packets c.args.t size (frame_packets (target m.history)) m) bytes
    ∙ sym (frame-due c.args.t m (sym c.if-not-is_frame_due.ensures)))
    (c.loop-i.invariant.at s m h)
