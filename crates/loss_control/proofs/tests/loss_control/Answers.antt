use Rattle.std.proofs.Common.{[], ◌∷◌, arith}
use Rattle.std.proofs.lemmas.List.Elements.{All-nil, All-cons}
use Rattle.loss_control.specs.Rule.{Counts}
use Rattle.loss_control.specs.GatheredReports.{IsCounts}
use Rattle.loss_control.proofs.tests.loss_control.Goals as goal

-- the first report
pub step-requires-2-clause-few : goal.step-requires-2-clause-few
step-requires-2-clause-few g c =
    let first : Counts = record { received = 10; missing = 0 } in
    let is_counts : IsCounts first = record { received = omega arith; missing = omega arith } in
    (first ∷ [], c.step.ensures.stands [] c.new-loss.ensures.stands, All-cons IsCounts first [] is_counts (All-nil IsCounts), omega arith)
