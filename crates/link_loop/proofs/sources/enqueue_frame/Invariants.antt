use Rattle.link_path.specs.declared.link.LinkSettings.{LinkSettings}
use Rattle.link_loop.specs.Looping.{Looping, with_packets}
use Rattle.link_loop.specs.Kept.{IsAt, IsSound}
use Rattle.link_loop.proofs.sources.enqueue_frame.Given as goal

abbrev pub invariant-loop-i : goal.invariant-loop-i
invariant-loop-i l = record {
  at : (s : LinkSettings) (m : Looping) → IsAt l.fn.looper s m → IsAt l.looper s (with_packets l.t l.size l._i m);
  sound : IsSound l.looper;
}
