use Rattle.std.proofs.Common.{take}
use Rattle.link_path.specs.declared.link.LinkSettings.{LinkSettings}
use Rattle.link_loop.specs.Looping.{Looping, with_offers}
use Rattle.link_loop.specs.Kept.{IsAt, IsSound}
use Rattle.link_loop.proofs.pacing.offer_all.Given as goal

abbrev pub invariant-loop-record : goal.invariant-loop-record
invariant-loop-record l = record {
  at : (s : LinkSettings) (m : Looping) → IsAt l.fn.looper s m → IsAt l.looper s (with_offers l.now (take l.record-index l.records) m);
  sound : IsSound l.fn.looper → IsSound l.looper;
}
