use Rattle.std.proofs.Common.{◌≡◌, suc, All, subst, ◌+◌, ◌∷◌, [], ◌++◌, List, length, ap, refl, ◌∙◌, sym, arith, append_assoc}
use Rattle.std.proofs.lemmas.List.Elements.{All-nil}
use Rattle.level_control.specs.Probing.{IsProbed}
use Rattle.level_control.specs.declared.state.Probed.{Probed}
use Rattle.probe_clusters.specs.declared.probes.Outcome.{Outcome}
use Rattle.probe_clusters.specs.Clusters.{outcomes}
use Rattle.probe_clusters.specs.Deeds.{takings}
use Rattle.steered_sender.specs.Measures.{listed, probed_by, probed_of}
use Rattle.steered_sender.proofs.Noting.{takings_more, few_outcomes}
use Rattle.steered_sender.proofs.clustering.take_results.Goals as goal

pub loop-outcome-preserved : goal.loop-outcome-preserved
loop-outcome-preserved c =
    let so_far = c.loop-outcome.invariant in
    let o : Outcome = c.in-Some.outcome in
    let rest : List Outcome = outcomes c.ready.new.self.items in
    let first : outcomes c.loop-outcome.clusters.items ≡ o ∷ rest = c.in-Some.ensures.first in
    let count : length (outcomes c.loop-outcome.clusters.items) ≡ suc (length rest) = ap (λ (os : List Outcome). length os) first in
    record {
      value =
          ap (λ (ps : List Probed). ps ++ probed_of c.args.planned.now rest) c.note_result.ensures.items
          ∙ append_assoc c.loop-outcome.results.items (listed (probed_by c.args.planned.now o)) (probed_of c.args.planned.now rest)
          ∙ ap (λ (os : List Outcome). c.loop-outcome.results.items ++ probed_of c.args.planned.now os) (sym first) ∙ so_far.value;
      room = omega (arith, so_far.room, c.note_result.ensures.spare);
      ranges = c.note_result.ensures.ranges;
      stands = λ ds stands.
          let past = so_far.stands ds stands in (
            past.0 ++ takings (o ∷ []),
            c.in-Some.ensures.stands past.0 past.1,
            takings_more past.0 _ o (outcomes c.loop-outcome.clusters.items) rest first past.2,
          );
    }

pub loop-outcome-init : goal.loop-outcome-init
loop-outcome-init c = record {
  value = ap (λ (ps : List Probed). ps ++ probed_of c.args.planned.now (outcomes c.args.clusters.now.items)) c.requires.empty;
  room = omega (arith, few_outcomes c.args.clusters.now.items, c.requires.room);
  ranges = subst (All IsProbed) (sym c.requires.empty) (All-nil IsProbed);
  stands = λ ds s. (ds, s, refl);
}
