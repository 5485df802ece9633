use Rattle.std.proofs.Common.{◌≡◌, ◌∙◌, [], ◌∷◌, ◌++◌, to_z, of_z, w64, rules}
use Rattle.std.proofs.lemmas.Int.{to_z-of_z}
use Rattle.estimator.specs.Signals.{steps}
use Rattle.trendline.specs.Trend as trendline
use Rattle.run_top.proofs.SideBySide.{filter-few, filter-room, trend-room, delay-within, slope-low, slope-high, beside_of, beside-next, compared-next}
use Rattle.run_top.proofs.beside.Beside.step.Goals as goal

pub step-mean-requires-clause-within : goal.step-mean-requires-clause-within
step-mean-requires-clause-within c = delay-within c.requires.0 c.args.sample.now c.requires.2

pub step-mean-requires-clause-few : goal.step-mean-requires-clause-few
step-mean-requires-clause-few c = (c.requires.0, c.requires.1.filter, filter-few c.requires.0 c.args.sample.now c.requires.2)

pub step-filter-requires : goal.step-filter-requires
step-filter-requires c = (steps c.requires.0, c.requires.1.filter_detector, filter-room c.requires.0 c.args.sample.now c.requires.2)

pub step-slope-requires : goal.step-slope-requires
step-slope-requires c = (c.requires.0, c.requires.1.trend, c.requires.2.within)

pub step-trend-requires : goal.step-trend-requires
step-trend-requires c = (trendline.steps c.requires.0, c.requires.1.trend_detector, trend-room c.requires.0 c.args.sample.now c.requires.2)

pub trend_of-value-requires-clause-low : goal.trend_of-value-requires-clause-low
trend_of-value-requires-clause-low c = slope-low (c.requires.0 ++ c.args.sample.now ∷ []) c.step-slope.result (c.step-slope.ensures.slope c.requires.0 c.requires.1.trend)

pub trend_of-value-requires-clause-high : goal.trend_of-value-requires-clause-high
trend_of-value-requires-clause-high c = slope-high (c.requires.0 ++ c.args.sample.now ∷ []) c.step-slope.result (c.step-slope.ensures.slope c.requires.0 c.requires.1.trend)

mean_whole : (c : goal.After-step-trend) → to_z w64 (of_z w64 c.step-mean.result) ≡ c.step-mean.result
mean_whole c = to_z-of_z w64 c.step-mean.result (search rules)

value_whole : (c : goal.After-step-trend) → to_z w64 (of_z w64 c.trend_of-value.result) ≡ c.trend_of-value.result
value_whole c = to_z-of_z w64 c.trend_of-value.result (search rules)

pub returns-clause-beside : goal.returns-clause-beside
returns-clause-beside c samples is =
    beside-next _ _ samples c.args.sample.now _ _ c.step-slope.result c.count.result c.step-filter.result c.step-trend.result is
    (c.step-mean.ensures.stands samples is.filter) (mean_whole c ∙ c.step-mean.ensures.mean) (c.step-slope.ensures.stands samples is.trend) c.count.ensures
    (c.step-slope.ensures.slope samples is.trend) (value_whole c ∙ c.trend_of-value.ensures)
    (c.step-filter.ensures.stands (steps samples) is.filter_detector) (c.step-trend.ensures.stands (trendline.steps samples) is.trend_detector)

pub returns-clause-compared : goal.returns-clause-compared
returns-clause-compared c samples is =
    compared-next c.args.self.now (beside_of c.step-mean.new.self c.step-filter.new.self c.step-slope.new.self c.step-trend.new.self) samples c.args.sample.now _ _ c.step-slope.result c.count.result c.step-filter.result c.step-trend.result is
    (c.step-mean.ensures.stands samples is.filter) (mean_whole c ∙ c.step-mean.ensures.mean) (c.step-slope.ensures.stands samples is.trend) c.count.ensures
    (c.step-slope.ensures.slope samples is.trend) (value_whole c ∙ c.trend_of-value.ensures)
    (c.step-filter.ensures.signals (steps samples) is.filter_detector) (c.step-trend.ensures.signals (trendline.steps samples) is.trend_detector)
