use Rattle.std.proofs.Common.{◌≡◌, ap, arith}
use Rattle.trendline.specs.KeptBySamples.{Kept}
use Rattle.trendline.proofs.Windows.{point-small, count-few, step-stands, slope-none, slope-some}
use Rattle.trendline.proofs.Trend.step.Goals as goal

pub moved-point-requires : goal.moved-point-requires
moved-point-requires c = point-small c.args.self.now c.self.inside.last c.args.sample.now (ap (λ (k : Kept). k.last) c.self.view_is) c.requires

pub overflow_add-self : goal.overflow_add-self
overflow_add-self c =
    let is : c.self.inside.count ≡ c.args.self.now.count = ap (λ (k : Kept). k.count) c.self.view_is in
    omega (arith, is, count-few c.args.self.now c.args.sample.now c.requires)

pub push-requires : goal.push-requires
push-requires c = c.moved-point.ensures.small

pub returns-then-self-from-clause-stands : goal.returns-then-self-from-clause-stands
returns-then-self-from-clause-stands c =
    step-stands c.args.self.now c.self.inside.window c.push.new.self c.self.inside.last c.moved-point.result c.self.inside.count c.args.sample.now
    c.self.view_is c.moved-point.ensures.value c.push.ensures

pub returns-then-self-from-clause-slope : goal.returns-then-self-from-clause-slope
returns-then-self-from-clause-slope c samples stands =
    slope-none _ _ (returns-then-self-from-clause-stands c samples stands) (omega (arith, c.from.ensures, c.if-self-from.true))

pub returns-clause-stands : goal.returns-clause-stands
returns-clause-stands c =
    step-stands c.args.self.now c.self.inside.window c.push.new.self c.self.inside.last c.moved-point.result c.self.inside.count c.args.sample.now
    c.self.view_is c.moved-point.ensures.value c.push.ensures

pub returns-clause-slope : goal.returns-clause-slope
returns-clause-slope c samples stands =
    slope-some _ _ c.slope.result (returns-clause-stands c samples stands) (omega (arith, c.from.ensures, c.if-self-from.false)) c.slope.ensures
