use Rattle.std.proofs.Common.{◌≡◌, ◌∷◌, [], ◌++◌, List, ap, ◌∙◌, sym}
use Rattle.rate_control.specs.declared.state.State as control_state
use Rattle.loss_control.specs.declared.step.State as loss_state
use Rattle.probe_clusters.specs.declared.probes.Outcome.{Outcome}
use Rattle.probe_clusters.specs.Clusters.{outcomes}
use Rattle.probe_clusters.specs.Deeds.{takings}
use Rattle.estimator.specs.Report.{delay_taking, loss_taking}
use Rattle.estimator.proofs.Noting.{takings_more}
use Rattle.estimator.proofs.report.take_results.Goals as goal

pub loop-outcome-preserved : goal.loop-outcome-preserved
loop-outcome-preserved c =
    let so_far = c.loop-outcome.invariant in
    let bounds = c.args.bounds in
    let o : Outcome = c.in-Some.outcome in
    let rest : List Outcome = outcomes c.ready.new.self.items in
    let first : outcomes c.loop-outcome.clusters.items ≡ o ∷ rest = c.in-Some.ensures.first in
    record {
      delay =
          ap (λ (s : control_state.State). delay_taking bounds s rest) c.take_result.ensures.delay
          ∙ ap (delay_taking bounds c.loop-outcome.delay) (sym first) ∙ so_far.delay;
      loss =
          ap (λ (s : loss_state.State). loss_taking bounds s rest) c.take_result.ensures.loss
          ∙ ap (loss_taking bounds c.loop-outcome.loss) (sym first) ∙ so_far.loss;
      reports = λ reports stands. c.take_result.ensures.reports reports (so_far.reports reports stands);
      delay_in_bounds = λ inside. c.take_result.ensures.delay_in_bounds (so_far.delay_in_bounds inside);
      loss_in_bounds = λ inside. c.take_result.ensures.loss_in_bounds (so_far.loss_in_bounds inside);
      stands = λ ds stands.
          let past = so_far.stands ds stands in (
            past.0 ++ takings (o ∷ []),
            c.in-Some.ensures.stands past.0 past.1,
            takings_more past.0 _ o (outcomes c.loop-outcome.clusters.items) rest first past.2,
          );
      reached = λ sends credits reached. c.in-Some.ensures.reached sends credits (so_far.reached sends credits reached);
      spare = c.in-Some.ensures.spare ∙ so_far.spare;
    }
