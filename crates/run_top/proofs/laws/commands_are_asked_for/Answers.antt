use Rattle.run_top.proofs.Asked.{asks, reads}
use Rattle.run_top.proofs.laws.commands_are_asked_for.Goals as goal

pub returns : goal.returns
returns c = λ words command. (asks words command, reads words command)
