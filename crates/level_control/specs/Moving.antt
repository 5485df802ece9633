-- Clocks need not agree: all arrivals moved by one time.
use Rattle.std.specs.Prelude.{ℕ, ℤ, ◌≡◌, ◌+ℤ◌, List, map, option_map}
use Rattle.level_control.specs.declared.state.Report.{Report}
use Rattle.level_control.specs.Given.{Given, reported, setting, answers}

-- a report whose packets all arrived later by a time, or earlier
abbrev pub moved_report : ℤ → Report → Report
moved_report time x = record x { delay = option_map (λ (delay : ℤ). delay +ℤ time) x.delay }

abbrev pub moved_given : ℤ → Given → Given
moved_given time (reported x results waits bounds) = reported (moved_report time x) results waits bounds
moved_given time (setting start bounds) = setting start bounds

-- It changes no answer: no rate, no signal and no cluster.
abbrev pub MovingChangesNoAnswer : Type 0
MovingChangesNoAnswer = (start : ℕ) (given : List Given) (time : ℤ) → answers start (map (moved_given time) given) ≡ answers start given
