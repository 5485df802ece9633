use Rattle.std.proofs.Common.{sym, ◌∙◌, subst}
use Rattle.live_sender.specs.Live.{Live, StandsFor}
use Rattle.live_sender.proofs.Summing.{may-grow}
use Rattle.live_sender.proofs.live.LiveSender.findings.Goals as goal

pub findings-requires : goal.findings-requires
findings-requires c = (
  c.self.invariant.0,
  c.self.invariant.1.parts,
  may-grow c.self.invariant.0 (sym (c.is_exhausted.ensures c.self.invariant.0 (subst (λ (l : Live). StandsFor l c.self.invariant.0) c.self.view_is c.self.invariant.1)) ∙ c.if-is_exhausted.false),
)
