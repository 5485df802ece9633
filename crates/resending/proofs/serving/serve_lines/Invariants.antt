use Rattle.nack_rtx.specs.declared.resender.RtxSettings.{RtxSettings}
use Rattle.resending.specs.Serving.{nothing, serving}
use Rattle.resending.specs.Alone.{IsSeated}
use Rattle.resending.specs.Standing.{Stands}
use Rattle.resending.proofs.serving.serve_lines.Given as goal

abbrev pub invariant-loop-line : goal.invariant-loop-line
invariant-loop-line g l = record {
  seated : IsSeated l.shared.of l.server.seat;
  served : (s : RtxSettings) → Stands s nothing l.fn.server → Stands s (serving s l.yielded) l.server;
}
