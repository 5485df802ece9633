use Rattle.std.proofs.Common.{◌≡◌, ℕ, List, length, take, get_or, ap, ◌∙◌, subst, arith}
use Rattle.std.proofs.Math.Seq.{take-length}
use Rattle.nack_rtx.specs.Resending.{verdict, left}
use Rattle.nack_rtx.specs.Answering.{IsTold, Works}
use Rattle.nack_rtx.proofs.Working.{goes_on_at}
use Rattle.nack_rtx.proofs.resender.Resender.judge_all.Goals as goal

pub loop-seq-preserved : goal.loop-seq-preserved
loop-seq-preserved c = record {
  works = λ a keep.
      let lost : List ℕ = c.args.nack.now.lost.items in
      let works = c.loop-seq.invariant.works a keep in
      let items : c.as_slice-seq-items.result.now ≡ lost = c.as_slice-seq-items.ensures.items in
      goes_on_at c.args.self.now c.loop-seq.answering c.take.new.self c.args.self.now.settings c.args.nack.now.media a lost c.loop-seq.seq-index c.in_ok-verdict.verdict
      (omega (arith, c.loop-seq-test.true, ap (length {A = ℕ}) items)) works
      (subst (λ (xs : List ℕ). c.in_ok-verdict.verdict ≡ verdict c.args.self.now.settings c.args.nack.now.media (left c.args.self.now.settings c.args.nack.now.media a (take c.loop-seq.seq-index lost)) (get_or xs c.loop-seq.seq-index 0))
      items (c.in_ok-verdict.ensures (left c.args.self.now.settings c.args.nack.now.media a (take c.loop-seq.seq-index lost)) works.keeps))
      (subst (λ k. IsTold c.loop-seq.answering c.take.new.self k c.in_ok-verdict.verdict) c.first-first.ensures c.in_ok-take.ensures.ok);
  few = omega (arith, c.loop-seq.invariant.few, c.take.ensures.few);
}

pub returns : goal.returns
returns c = λ a keep.
    let lost : List ℕ = c.args.nack.now.lost.items in
    let items : c.as_slice-seq-items.result.now ≡ lost = c.as_slice-seq-items.ensures.items in
    let all : c.loop-seq.seq-index ≡ length lost = omega (arith, c.loop-seq-test.false, c.loop-seq.auto.seq-index-end, ap (length {A = ℕ}) items) in
    subst (λ (xs : List ℕ). Works c.args.self.now c.loop-seq.answering c.args.self.now.settings c.args.nack.now.media a xs)
    (ap (λ k. take k lost) all ∙ take-length lost) (c.loop-seq.invariant.works a keep)
