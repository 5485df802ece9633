use Rattle.std.proofs.Common.{take}
use Rattle.send_laws.specs.InRange.{all_credits}
use Rattle.run_top.specs.Compared.{IsSoFar}
use Rattle.run_top.proofs.comparing.compare_journal.Given as goal

abbrev pub invariant-loop-k : goal.invariant-loop-k
invariant-loop-k l = IsSoFar l.comparing (all_credits (take l.k l.journal.items))
