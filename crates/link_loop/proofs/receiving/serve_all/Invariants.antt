use Rattle.std.proofs.Common.{take, map}
use Rattle.twcc_report.specs.Spelling.{view}
use Rattle.link_path.specs.declared.link.LinkSettings.{LinkSettings}
use Rattle.link_loop.specs.Looping.{Looping, all_served}
use Rattle.link_loop.specs.Kept.{IsAt, IsSound}
use Rattle.link_loop.proofs.receiving.serve_all.Given as goal

abbrev pub invariant-loop-report : goal.invariant-loop-report
invariant-loop-report l = record {
  at : (s : LinkSettings) (m : Looping) → IsAt l.fn.looper s m → IsAt l.looper s (all_served l.t (map view (take l.report-index l.reports)) m);
  sound : IsSound l.looper;
}
