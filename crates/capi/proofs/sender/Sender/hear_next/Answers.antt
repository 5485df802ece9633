use Rattle.std.proofs.Common.{sym, subst}
use Rattle.send_core.specs.declared.call.Cause.{Cause}
use Rattle.std.proofs.Common.{Option, ◌++◌, ◌∷◌, []}
use Rattle.capi.specs.Hearing.{AreHeard}
use Rattle.capi.proofs.Hearing.{heard-fault, heard-served}
use Rattle.capi.proofs.sender.Sender.hear_next.Goals as goal

pub returns-in-Ok-clause-heard : goal.returns-in-Ok-clause-heard
returns-in-Ok-clause-heard c first reports h =
    subst (λ (r : Option Cause). AreHeard first c.hear_one.new.self.steered c.hear_one.new.self.findings c.args.at (record { refused = r; stopped = c.args.heard.now.stopped }) (reports ++ c.args.report.now ∷ []))
    (sym c.first_of-heard.ensures)
    (heard-served first c.args.self.now.steered c.hear_one.new.self.steered c.args.self.now.findings c.hear_one.new.self.findings c.args.at c.args.heard.now c.in-Ok.refusal reports c.args.report.now c.requires.going c.hear_one.ensures.control c.in-Ok.ensures.refusal c.in-Ok.ensures.stands c.in-Ok.ensures.findings h)

pub returns-in-Err-clause-heard : goal.returns-in-Err-clause-heard
returns-in-Err-clause-heard c first reports h =
    heard-fault first c.args.self.now c.hear_one.new.self c.args.at c.args.heard.now c.in-Err.fault reports c.args.report.now c.hear_one.ensures.control c.in-Err.ensures.err h
