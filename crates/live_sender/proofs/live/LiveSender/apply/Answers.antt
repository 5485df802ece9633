use Rattle.live_sender.proofs.live.LiveSender.apply.Goals as goal

pub returns-in-Ok-clause-wires : goal.returns-in-Ok-clause-wires
returns-in-Ok-clause-wires c = λ h s. c.quiet.ensures.wires h

pub returns-in-Ok-report-clause-wires : goal.returns-in-Ok-report-clause-wires
returns-in-Ok-report-clause-wires c = λ h s. c.quiet-in-Ok-report.ensures.wires h

pub returns-in-Ok-configure-clause-wires : goal.returns-in-Ok-configure-clause-wires
returns-in-Ok-configure-clause-wires c = λ h s. c.quiet-in-Ok-configure.ensures.wires h
