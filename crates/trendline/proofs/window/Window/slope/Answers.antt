use Rattle.std.proofs.Common.{ap, ◌∙◌}
use Rattle.trendline.specs.Trend.{fit, rise_of, spread_of, sums_of}
use Rattle.trendline.proofs.Windows.{held-small}
use Rattle.trendline.proofs.window.Window.slope.Goals as goal

pub slope_of-requires : goal.slope_of-requires
slope_of-requires c = held-small c.self.inside.points.capacity c.self.inside.sums c.self.inside.points.items c.self.invariant

pub returns : goal.returns
returns c = c.slope_of.ensures ∙ ap (λ s. fit (rise_of s) (spread_of s)) (c.self.invariant.summed ∙ ap sums_of c.self.view_is)
