use Rattle.std.proofs.Common.{arith}
use Rattle.gcc_live.proofs.Lines.{told-first}
use Rattle.gcc_live.proofs.telling.serve_lines.Goals as goal

pub loop-line-init : goal.loop-line-init
loop-line-init c = (
  told-first c.in_ok-sender.sender c.in_ok-told.told c.in_ok-sender.ensures.stands c.in_ok-told.ensures.text c.in_ok-told.ensures.calls c.in_ok-told.ensures.glances,
  omega (arith, c.in_ok-told.ensures.calls),
)
