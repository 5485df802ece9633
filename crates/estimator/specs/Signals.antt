-- From credits to signals: their samples, the filter's means, and what the detector says of each.
use Rattle.std.specs.Prelude.{ℕ, ℤ, ◌+◌, ◌≤◌, Option, None, Some, List, [], ◌∷◌, ◌++◌, length, drop, fold, All}
use Rattle.gcc_units.specs.declared.shared_types.Credit.{Credit}
use Rattle.gcc_units.specs.declared.shared_types.Sample.{Sample}
use Rattle.gcc_units.specs.declared.shared_types.Signal.{Signal}
use Rattle.gcc_units.specs.declared.shared_types.Signal.TheVariants.{Over}
use Rattle.gcc_units.specs.declared.limits.TheConstants.{GREATEST_MOMENT, MOST_PACKETS}
use Rattle.packet_groups.specs.Groups.{samples}
use Rattle.packet_groups.specs.declared.step.State as groups_state
use Rattle.packet_groups.specs.Kept as grouped
use Rattle.arrival_filter.specs.Filter as filter
use Rattle.arrival_filter.specs.StateBySamples as filtered
use Rattle.overuse.specs.Detector as detector
use Rattle.overuse.specs.StateBySteps as detected

-- a sample, with the filter's mean after it
abbrev pub step_of : filter.State → Sample → detector.Step
step_of s x = record { mean = (filter.step s x).mean; sample = x }

-- what the detector is given for samples, from a state of the filter on
abbrev pub steps_from : filter.State → List Sample → List detector.Step
steps_from s [] = []
steps_from s (x ∷ xs) = step_of s x ∷ steps_from (filter.step s x) xs

-- what the detector is given for all these samples
abbrev pub steps : List Sample → List detector.Step
steps xs = steps_from filter.start xs

-- the signals of all samples of these credits
abbrev pub signals : List Credit → List Signal
signals credits = detector.signals (steps (samples credits))

-- the signals that a report adds
abbrev pub added : List Credit → List Credit → List Signal
added before received = drop (length (signals before)) (signals (before ++ received))

-- Over stays, and else the later one counts
abbrev pub heard_next : Option Signal → Signal → Option Signal
heard_next (Some Over) s = Some Over
heard_next o s = Some s

-- Over where one of them is, else the last one; none of no signal
abbrev pub heard : List Signal → Option Signal
heard found = fold heard_next None found

-- the signal of a report, where it gave a sample
abbrev pub report_signal : List Credit → List Credit → Option Signal
report_signal before received = heard (added before received)

-- the filter's mean
abbrev pub mean : List Credit → ℤ
mean credits = (filter.filter_state (samples credits)).mean

-- Groups, filter and detector were given these credits.
pub record Follow (credits : List Credit) (g : groups_state.State) (f : filter.State) (d : detector.State) : Type 0 where
  pub groups : grouped.StandsFor g credits
  pub filter : filtered.StandsFor f (samples credits)
  pub detector : detected.StandsFor d (steps (samples credits))

-- the signal, where there is one
abbrev pub listed : Option Signal → List Signal
listed None = []
listed (Some s) = s ∷ []

-- ---- what they may be given next

abbrev pub IsSentBy : ℕ → Credit → Type 0
IsSentBy moment c = c.sent_at ≤ moment

-- Beside the credits of before, no more than the most in all, and each sent by some moment.
pub record TakesCredits (received : List Credit) (g : groups_state.State) (f : filter.State) (d : detector.State) : Type 0 where
  pub before : List Credit
  pub follow : Follow before g f d
  pub few : length before + length received ≤ MOST_PACKETS
  pub moment : ℕ
  pub greatest : moment ≤ GREATEST_MOMENT
  pub earlier : All (IsSentBy moment) before
  pub sent : All (IsSentBy moment) received
