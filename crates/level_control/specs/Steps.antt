-- A whole report: what it shows, and then the results of probes.
use Rattle.std.specs.Prelude.{Bool, if◌then◌else◌, List, is_some}
use Rattle.gcc_units.specs.declared.shared_types.Bounds.{Bounds}
use Rattle.gcc_units.specs.declared.shared_types.Signal.{Signal}
use Rattle.gcc_units.specs.declared.shared_types.Signal.TheVariants.{Normal, Over, Under}
use Rattle.level_control.specs.declared.Answer.{Answer}
use Rattle.level_control.specs.declared.state.Report.{Report}
use Rattle.level_control.specs.declared.state.Probed.{Probed}
use Rattle.level_control.specs.declared.state.State.{State}
use Rattle.level_control.specs.declared.report.Measured.{Measured}
use Rattle.level_control.specs.declared.probing.Asked.{Asked}
use Rattle.level_control.specs.Rule.{after_report}
use Rattle.level_control.specs.Probing.{probed}

-- cut, in a drain, or neither
abbrev pub signal_of : Bool → Bool → Signal
signal_of cut drains = if cut then Over else (if drains then Under else Normal)

abbrev pub asked : State → Report → List Probed → Bool → Bounds → Asked
asked s x results waits bounds = probed (after_report s x bounds).state results waits x.now bounds

-- the state after a report
abbrev pub after : State → Report → List Probed → Bool → Bounds → State
after s x results waits bounds = (asked s x results waits bounds).state

abbrev pub answer_by : Measured → Asked → Answer
answer_by m a = record { rate = a.state.rate; signal = signal_of m.cut (is_some m.state.drain); cluster = a.cluster }

-- what it answers
abbrev pub answer : State → Report → List Probed → Bool → Bounds → Answer
answer s x results waits bounds = answer_by (after_report s x bounds) (asked s x results waits bounds)
