use Rattle.std.proofs.Common.{◌≡◌, ℕ, ◌≤◌, Bool, List, ◌++◌, map, nat_lt, refl, ◌∙◌, ap, subst}
use Rattle.std.specs.Option.{ForSome}
use Rattle.gcc_units.specs.declared.shared_types.Credit.{Credit}
use Rattle.probe_clusters.specs.declared.cluster.Cluster.{Cluster}
use Rattle.probe_clusters.specs.Clusters.{outcomes}
use Rattle.probe_clusters.specs.Deeds.{Deed, Note, StandsFor, rates, clusters, takings}
use Rattle.estimator.specs.Report.{round_trip}
use Rattle.level_control.specs.declared.state.Report.{Report}
use Rattle.level_control.specs.declared.state.Probed.{Probed}
use Rattle.level_control.specs.Steps.{after, answer}
use Rattle.steered_sender.specs.Steered.{told_of, results}
use Rattle.steered_sender.proofs.Told.{IsTold, is-told}
use Rattle.steered_sender.proofs.steering.Steering.hear.Goals as goal

pub returns : goal.returns
returns c =
    let s = c.args.self.now in
    let told : (ds : List Deed) → StandsFor s.clusters.items ds → s.planned.items ≡ rates ds
    → IsTold ds s.rtt c.args.now c.args.judged.now c.args.acked c.report_of-report.result c.as_slice-2.result.now c.waiting-waits.result =
    λ ds stands planned. is-told ds c.args.self.now.rtt c.args.now c.args.judged.now c.args.acked c.report_of-report.result c.as_slice-2.result.now c.take_results-results.result.items c.waiting-waits.result c.round_trip-self.result
    c.as_slice-received.result.now c.as_slice.result.now c.note_all.new.clusters.items
    c.as_slice-received.ensures.items c.round_trip-self.ensures.value c.report_of-report.ensures.value c.as_slice-2.ensures.items c.take_results-results.ensures.value
    (c.as_slice.ensures.items ∙ planned) (c.note_all.ensures.stands ds stands).are (c.waiting-waits.ensures.stands ds stands) in
    record {
      start = refl;
      planned = refl;
      was_started = refl;
      bounds = refl;
      rtt = c.round_trip-self.ensures.value ∙ ap (λ (cs : List Credit). round_trip s.rtt cs c.args.now) c.as_slice-received.ensures.items;
      short = c.round_trip-self.ensures.range c.requires.takes.short;
      level = λ ds stands planned.
          let t = told ds stands planned in
          c.take_report-answer.ensures.state
          ∙ (ap (λ (r : Report). after s.level r c.as_slice-2.result.now (nat_lt 0 c.waiting-waits.result) s.bounds) t.report_is
          ∙ (ap (λ (ps : List Probed). after s.level (told_of s.rtt c.args.now c.args.judged.now c.args.acked) ps (nat_lt 0 c.waiting-waits.result) s.bounds) t.results_are
          ∙ ap (λ (b : Bool). after s.level (told_of s.rtt c.args.now c.args.judged.now c.args.acked) (results ds c.args.judged.now.received.items) b s.bounds) t.waits_is));
      told_is = λ ds stands planned.
          let t = told ds stands planned in
          c.take_report-answer.ensures.answer
          ∙ (ap (λ (r : Report). answer s.level r c.as_slice-2.result.now (nat_lt 0 c.waiting-waits.result) s.bounds) t.report_is
          ∙ (ap (λ (ps : List Probed). answer s.level (told_of s.rtt c.args.now c.args.judged.now c.args.acked) ps (nat_lt 0 c.waiting-waits.result) s.bounds) t.results_are
          ∙ ap (λ (b : Bool). answer s.level (told_of s.rtt c.args.now c.args.judged.now c.args.acked) (results ds c.args.judged.now.received.items) b s.bounds) t.waits_is));
      wanted = refl;
      clusters = λ ds stands.
          let noted : StandsFor c.note_all.new.clusters.items (ds ++ map Note c.as_slice-received.result.now) = c.note_all.ensures.stands ds stands in
          subst (λ (cs : List Credit). StandsFor c.take_results-results.new.clusters.items ((ds ++ map Note cs) ++ takings (outcomes (clusters (ds ++ map Note cs))))) c.as_slice-received.ensures.items
          (subst (λ (ks : List Cluster). StandsFor c.take_results-results.new.clusters.items ((ds ++ map Note c.as_slice-received.result.now) ++ takings (outcomes ks))) noted.are
          (c.take_results-results.ensures.stands (ds ++ map Note c.as_slice-received.result.now) noted));
      gathers = c.take_report-answer.ensures.gathers;
      last = subst (λ (n : ℕ). ForSome c.take_report-answer.new.self.last (λ last. last ≤ n)) (ap (λ (r : Report). r.now) c.report_of-report.ensures.value) c.take_report-answer.ensures.last;
    }
