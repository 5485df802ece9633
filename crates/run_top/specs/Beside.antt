-- What the filter and the trendline say after each sample, each with a detector of its own.
use Rattle.std.specs.Prelude.{◌≤◌, List, [], ◌∷◌, ◌++◌, fold}
use Rattle.gcc_units.specs.declared.limits.TheConstants.{GREATEST_MOMENT}
use Rattle.gcc_units.specs.declared.shared_types.Sample.{Sample}
use Rattle.gcc_units.specs.declared.shared_types.Signal.{Signal}
use Rattle.gcc_units.specs.declared.shared_types.Signal.TheVariants.{Normal}
use Rattle.gcc_units.specs.Walk.{each_by}
use Rattle.packet_groups.specs.Division.{total_gap}
use Rattle.arrival_filter.specs.Filter.{filter_state}
use Rattle.arrival_filter.specs.StateBySamples as filtered
use Rattle.overuse.specs.Detector as detector
use Rattle.overuse.specs.StateBySteps as detected
use Rattle.trendline.specs.Trend as trendline
use Rattle.trendline.specs.KeptBySamples as trended
use Rattle.estimator.specs.Signals.{steps}
use Rattle.run_top.specs.declared.beside.Beside.{Beside}
use Rattle.run_top.specs.declared.beside.Compared.{Compared}

-- the last of these signals
abbrev pub last_signal : List Signal → Signal
last_signal signals = fold (λ (before s : Signal). s) Normal signals

-- what both say after all these samples
abbrev pub compared_after : List Sample → Compared
compared_after samples = record {
  filter = last_signal (detector.signals (steps samples));
  mean = (filter_state samples).mean;
  trend = last_signal (trendline.signals samples);
  value = trendline.trend samples;
}

-- what both say after each of these samples, by it and those before it
abbrev pub compared : List Sample → List Compared
compared samples = each_by (λ before s. compared_after (before ++ s ∷ [])) [] samples

-- The parts were given these samples.
pub record IsBeside (b : Beside) (samples : List Sample) : Type 0 where
  pub filter : filtered.StandsFor b.filter samples
  pub filter_detector : detected.StandsFor b.filter_detector (steps samples)
  pub trend : trended.StandsFor b.trend samples
  pub trend_detector : detected.StandsFor b.trend_detector (trendline.steps samples)

-- ---- what they may be given next

-- All parts may be given these samples: they are within what a trend takes, and their send gaps come to no more than the greatest moment.
pub record AreTaken (samples : List Sample) : Type 0 where
  pub within : trended.AreWithin samples
  pub gaps : total_gap samples ≤ GREATEST_MOMENT

-- with this sample, those that they were given are taken
abbrev pub TakesSample : Beside → Sample → Type 0
TakesSample b s = (samples : List Sample) × IsBeside b samples × AreTaken (samples ++ s ∷ [])
