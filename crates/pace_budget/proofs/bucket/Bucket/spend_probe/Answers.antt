use Rattle.std.proofs.Common.{rules}
use Rattle.std.proofs.lemmas.Int.{ints}
use Rattle.pace_budget.specs.Level.{Probe}
use Rattle.pace_budget.proofs.Steps.{StandsFor-step}
use Rattle.pace_budget.proofs.bucket.Bucket.spend_probe.Goals as goal

pub returns-clause-stands : goal.returns-clause-stands
returns-clause-stands c = λ ds s. StandsFor-step c.args.self.now ds (Probe c.args.size) s _ (search (rules, ints))
