use Rattle.std.proofs.Common.{ℕ, ◌≡◌, ◌≤◌, List, [], ◌∷◌, ◌++◌, length, map, All, ap, sym, ◌∙◌, subst}
use Rattle.gcc_units.specs.declared.shared_types.Credit.{Credit}
use Rattle.loss_control.specs.Rule.{after}
use Rattle.loss_control.specs.GatheredReports as counted
use Rattle.probe_clusters.specs.declared.probes.Outcome.{Outcome}
use Rattle.probe_clusters.specs.Clusters.{outcomes}
use Rattle.probe_clusters.specs.Deeds.{Note, StandsFor as StandsOf}
use Rattle.estimator.specs.Est.{judged_est, found}
use Rattle.estimator.specs.Kept.{Values, StandsFor, IsInRange}
use Rattle.estimator.proofs.Taking.{takes_credits, takes_adds, stands_judged}
use Rattle.estimator.proofs.Estimator.judge.Goals as goal
use Rattle.gcc_units.specs.declared.limits.TheConstants.{MOST_STATUSES}

pub hear-heard-requires-clause-room : goal.hear-heard-requires-clause-room
hear-heard-requires-clause-room c =
    takes_credits c.args.self.now _ c.args.judged.now.received.items _ c.args.now c.self.view_is c.as_slice-received.ensures.items c.requires.report c.requires.moment c.requires.sent

pub add_all-requires-clause-room : goal.add_all-requires-clause-room
add_all-requires-clause-room c =
    takes_adds c.args.self.now _ c.args.judged.now.received.items _ c.args.now c.self.view_is c.as_slice-received.ensures.items c.requires.report

pub returns-clause-stands : goal.returns-clause-stands
returns-clause-stands c e ds stands known =
    let xs : List Credit = c.as_slice-received.result.now in
    let received : List Credit = c.args.judged.now.received.items in
    let missing = c.args.judged.now.missing in
    let same : xs ≡ received = c.as_slice-received.ensures.items in
    let count : c.len.result ≡ length xs = c.len.ensures ∙ ap (λ (ys : List Credit). length ys) (sym same) in
    let results : List Outcome = outcomes c.note_all.new.clusters.items in
    let noted : StandsOf c.note_all.new.clusters.items (ds ++ map Note xs) = c.note_all.ensures.stands ds known in
    let found_is : results ≡ found ds xs = ap outcomes noted.are in
    let Stands : Values → Type 0 = λ v. StandsFor v e in
    let Ranges : List Credit → Type 0 = All IsInRange in
    let Few : List Credit → Type 0 = λ ys. length ys ≤ MOST_STATUSES in
    let now : Values = record {
      groups = c.hear-heard.new.groups;
      filter = c.hear-heard.new.filter;
      detector = c.hear-heard.new.detector;
      window = c.add_all.new.window;
      delay = c.take_results.new.delay;
      loss = c.take_results.new.loss;
      signal = c.unwrap_or-self-inside.result;
      rtt = c.round_trip-self-inside.result;
    } in
    let After : List Credit → List Outcome → Type 0 = λ ys os. StandsFor now (judged_est e ys missing c.args.now c.args.bounds os) in
    let Found : List Outcome → Type 0 = After xs in
    let Whole : List Credit → Type 0 = λ ys. After ys (found ds ys) in
    subst Whole same (subst Found found_is (stands_judged _ e xs missing c.args.now c.args.bounds results (subst Stands (sym c.self.view_is) stands)
    (subst Ranges (sym same) c.requires.ranges) (subst Few (sym same) c.requires.received) c.requires.missing
    _ _ _ c.hear-heard.ensures.follow _ c.hear-heard.ensures.signal _ c.add_all.ensures _ c.rate-acked.ensures.value
    _ c.unwrap_or-self-inside.ensures _ c.round_trip-self-inside.ensures _ c.step_if_heard.ensures.state
    _ (c.step.ensures.state ∙ ap (λ k. after c.self.inside.loss (record { received = k; missing = missing }) c.args.now c.args.bounds) count)
    (λ reports given.
    let Counted : ℕ → Type 0 = λ k. counted.StandsFor c.step.new.self (reports ++ record { received = k; missing = missing } ∷ []) in
    subst Counted count (c.step.ensures.stands reports given))
    _ c.take_results.ensures.delay _ c.take_results.ensures.loss c.take_results.ensures.reports))

pub returns-clause-answer : goal.returns-clause-answer
returns-clause-answer c e ds stands known =
    c.current.ensures.value (judged_est e c.args.judged.now.received.items c.args.judged.now.missing c.args.now c.args.bounds (found ds c.args.judged.now.received.items))
    (returns-clause-stands c e ds stands known)
