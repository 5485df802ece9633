use Rattle.std.proofs.Common.{◌≡◌, ◌∙◌, ap, sym, arith}
use Rattle.send_core.specs.Estimates.{target}
use Rattle.call_trace.specs.MadePackets.{frame_packets, packet_bytes}
use Rattle.call_trace.specs.Making.{with_video, with_packets}
use Rattle.call_trace.specs.Makers.{making}
use Rattle.call_trace.proofs.Framing.{packets-none, packets-more, frame-due, frame-not_due}
use Rattle.call_trace.proofs.making.Maker.enqueue_frame.Goals as goal

pub returns-then-not-is_frame_due-clause-making : goal.returns-then-not-is_frame_due-clause-making
returns-then-not-is_frame_due-clause-making c = sym (frame-not_due c.args.t (making c.args.self.now) (sym c.if-not-is_frame_due.ensures))

pub loop-init : goal.loop-init
loop-init c = record { making = packets-none c.args.t c.frame-packets.result.1 (making c.args.self.now); counted = c.requires.counted }

pub loop-preserved : goal.loop-preserved
loop-preserved c = record {
  making =
      c.in_ok-enqueue_video.ensures.making
      ∙ (ap (with_video c.args.t c.frame-packets.result.1) c.loop.invariant.making ∙ sym (packets-more c.args.t c.frame-packets.result.1 c.loop.counter (making c.args.self.now)));
  counted = c.in_ok-enqueue_video.ensures.counted;
}

pub returns-clause-making : goal.returns-clause-making
returns-clause-making c =
    let m = making c.args.self.now in
    let count : c.loop.counter ≡ frame_packets (target m.history) = omega (arith, c.loop-test.false, c.loop.auto.counter-end, c.frame-packets.ensures.packets ∙ ap frame_packets c.target.ensures.target) in
    let bytes : c.frame-packets.result.1 ≡ packet_bytes (target m.history) = c.frame-packets.ensures.bytes ∙ ap packet_bytes c.target.ensures.target in
    c.loop.invariant.making
    ∙ (ap (λ n. with_packets c.args.t c.frame-packets.result.1 n m) count ∙ (ap (λ size. with_packets c.args.t size (frame_packets (target m.history)) m) bytes
    ∙ sym (frame-due c.args.t m (sym c.if-not-is_frame_due.ensures))))
