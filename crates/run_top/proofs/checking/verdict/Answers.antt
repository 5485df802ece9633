use Rattle.std.proofs.Common.{subst}
use Rattle.std.proofs.lemmas.List.{take_rest}
use Rattle.run_top.specs.Check.{IsVerdictOn}
use Rattle.run_top.proofs.Outcomes.{verdict_is}
use Rattle.run_top.proofs.checking.verdict.Goals as goal

pub returns-in-Ok : goal.returns-in-Ok
returns-in-Ok c = (
  record { actors = c.in_ok-trace.trace.actors; lines = c.in_ok-trace.trace.lines.items },
  c.in_ok-trace.count,
  c.in_ok-trace.ensures.exact,
  c.in_ok-trace.ensures.found,
  subst (λ rest. IsVerdictOn (record { actors = c.in_ok-trace.trace.actors; lines = c.in_ok-trace.trace.lines.items }) rest c.in-Ok.verdict)
      (take_rest c.args.bytes.now c.in_ok-trace.count)
      (verdict_is c.in_ok-trace.trace.lines.items c.in_ok-trace.trace.actors _ c.in-Ok.verdict c.in-Ok.ensures.legal c.in-Ok.ensures.differs),
)
