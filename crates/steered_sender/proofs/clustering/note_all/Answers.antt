use Rattle.std.proofs.Common.{ℕ, ◌≡◌, ◌+◌, List, length, ap, ◌∙◌, subst, arith}
use Rattle.probe_clusters.specs.declared.cluster.Cluster.{Cluster}
use Rattle.probe_clusters.specs.Deeds.{Deed, Note, StandsFor, ReachedBy}
use Rattle.steered_sender.proofs.Noting.{length-noted, given_more}
use Rattle.steered_sender.proofs.clustering.note_all.Goals as goal

pub loop-credit-preserved : goal.loop-credit-preserved
loop-credit-preserved c =
    let so_far = c.loop-credit.invariant in
    let after = c.judge.new.self.items in
    let Stands : List Deed → Type 0 = StandsFor after in
    record {
      stands = λ ds stands.
          subst Stands (given_more Note ds c.args.received.now c.loop-credit.credit-index _ c.loop-credit-test.true) (c.judge.ensures.stands _ (so_far.stands ds stands));
      reached = λ sends credits reached.
          let Reached : ℕ → Type 0 = λ n. ReachedBy sends n after in
          let sum : credits + c.loop-credit.credit-index + 1 ≡ credits + (c.loop-credit.credit-index + 1) = omega arith in
          subst Reached sum (c.judge.ensures.reached sends _ (so_far.reached sends credits reached));
      same = ap (λ (cs : List Cluster). length cs) c.judge.ensures.items ∙ length-noted _ _ ∙ so_far.same;
    }
