use Rattle.link_loop.specs.Looping.{looping}
use Rattle.link_loop.specs.Kept.{IsAt, IsSound}
use Rattle.link_loop.proofs.running.run.Given as goal

abbrev pub invariant-loop-t : goal.invariant-loop-t
invariant-loop-t l = record {
  at : IsAt l.looper l.fn.settings (looping l.fn.settings l.t);
  sound : IsSound l.looper;
}
