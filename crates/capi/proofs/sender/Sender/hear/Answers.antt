use Rattle.capi.proofs.Hearing.{heard-stopped}
use Rattle.capi.proofs.sender.Sender.hear.Goals as goal

pub returns-in-Some-clause-heard : goal.returns-in-Some-clause-heard
returns-in-Some-clause-heard c first reports h =
    heard-stopped first c.args.self.now.steered c.args.self.now.findings c.args.at c.args.heard.now c.in-Some._fault reports c.args.report.now c.in-Some.is h
