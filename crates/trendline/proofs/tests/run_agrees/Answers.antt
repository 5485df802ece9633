use Rattle.std.proofs.Common.{[], refl, arith}
use Rattle.std.proofs.lemmas.List.Elements.{All-nil}
use Rattle.trendline.proofs.Few.{IsSoon, soon-of, fed-takes, fed-more}
use Rattle.trendline.proofs.tests.run_agrees.Goals as goal

pub loop-k-init : goal.loop-k-init
loop-k-init g c = record { samples = []; stands = c.in_ok-trend.ensures; soon = All-nil IsSoon; all = refl }

pub step-slope-requires : goal.step-slope-requires
step-slope-requires g c =
    fed-takes c.loop-k.trend c.loop-k.k c.args.sample.now c.loop-k.invariant (omega arith)
    (soon-of c.args.sample.now c.requires.delay_low c.requires.delay_high c.requires.gap_low c.requires.gap_high)

pub loop-k-preserved : goal.loop-k-preserved
loop-k-preserved g c =
    fed-more c.loop-k.trend c.step-slope.new.self c.loop-k.k c.args.sample.now c.loop-k.invariant
    (soon-of c.args.sample.now c.requires.delay_low c.requires.delay_high c.requires.gap_low c.requires.gap_high) c.step-slope.ensures.stands
