-- What holds of every history that a control steers.
use Rattle.std.specs.Prelude.{◌≡◌, Some, true, List}
use Rattle.gcc_units.specs.Rates.{bounded}
use Rattle.send_core.specs.declared.call.Call.TheVariants.{Configure}
use Rattle.send_core.specs.declared.call.Entry.{Entry}
use Rattle.send_core.specs.Estimates.{target}
use Rattle.send_core.specs.History.{now}
use Rattle.send_core.specs.Reply.{reply}
use Rattle.send_core.specs.Settings.{settings}
use Rattle.steered_sender.specs.declared.steering.Wanted.{Wanted}
use Rattle.steered_sender.specs.Replies.{is_configured}
use Rattle.steered_sender.specs.Steered.{change_for, with_wanted}

-- Where a change that the control asked for is accepted, the target is the rate that it asked for, put in the bounds.
abbrev pub TargetIsTheRateAskedFor : Type 0
TargetIsTheRateAskedFor =
    (history : List Entry) (wanted : Wanted) → is_configured (reply history (Configure (now history) (change_for wanted))) ≡ true
    → target (with_wanted history (Some wanted)) ≡ bounded (settings history).bounds wanted.rate
