use Rattle.std.specs.List.{All}
use Rattle.std.proofs.Common.{subst}
use Rattle.std.proofs.lemmas.List.{take_all}
use Rattle.std.proofs.lemmas.List.Elements.{All-more}
use Rattle.live_loop.specs.Plans.{IsStep}
use Rattle.gcc_live.proofs.loop_words.are_in_range.Goals as goal

pub loop-step-preserved : goal.loop-step-preserved
loop-step-preserved c = All-more IsStep c.args.steps.now c.loop-step.step-index _ c.loop-step-test.true c.loop-step.invariant (record {
  least = c.if-step-lt-LEAST_LINE_RATE.false;
  greatest = c.if-step-gt-GREATEST_LINE_RATE.false;
})

pub returns : goal.returns
returns c = λ same. subst (All IsStep) (take_all _ c.args.steps.now c.loop-step-test.false) c.loop-step.invariant
