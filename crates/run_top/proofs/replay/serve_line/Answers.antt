use Rattle.run_top.proofs.Serving.{served-ask, served-look}
use Rattle.run_top.proofs.replay.serve_line.Goals as goal

pub returns-in-Ok-clause-served : goal.returns-in-Ok-clause-served
returns-in-Ok-clause-served c =
    served-ask c.args.sender.now c.args.line c.in-Ask.call c.in-Ok._answer.reply c.apply.new.self c.in-Ask.is c.in-Ok.ensures.reply c.in-Ok.ensures.grows

pub returns-in-Ok-push-clause-served : goal.returns-in-Ok-push-clause-served
returns-in-Ok-push-clause-served c = served-look c.args.sender.now c.args.line c.in-Look.is
