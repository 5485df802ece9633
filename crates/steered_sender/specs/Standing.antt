-- A steered sender stands for the history of its calls, in which the control's changes stand.
use Rattle.std.specs.Prelude.{◌⊎◌, ℕ, Option, Some, None, List, []}
use Rattle.gcc_units.specs.Rates.{IsRate}
use Rattle.live_sender.specs.Live.{Live}
use Rattle.live_sender.specs.Live as live
use Rattle.level_control.specs.declared.Answer.{Answer}
use Rattle.send_core.specs.declared.call.Entry.{Entry}
use Rattle.send_core.specs.declared.call.Reply.{Reply}
use Rattle.steered_sender.specs.declared.steered.Control.{Control}
use Rattle.steered_sender.specs.declared.steered.Control.TheVariants.{Gradient, Level}
use Rattle.steered_sender.specs.declared.steering.Steering.{Steering}
use Rattle.steered_sender.specs.declared.steering.Wanted.{Wanted}
use Rattle.steered_sender.specs.Steered.{steered, begun, answered, with_wanted}
use Rattle.steered_sender.specs.Steps.{Steers}

-- the sender, and what steers it
pub record Kept : Type 0 where
  pub sender : Live
  pub steering : Option Steering

abbrev pub SteersIf : Option Steering → List Entry → Type 0
SteersIf None history = Unit {0}
SteersIf (Some s) history = Steers s history

pub record StandsFor (now : Kept) (history : List Entry) : Type 0 where
  pub sender : live.StandsFor now.sender history
  pub steering : SteersIf now.steering history

-- what the control asks for and was not served yet
abbrev pub wanted_of : Option Steering → Option Wanted
wanted_of None = None
wanted_of (Some s) = s.wanted

-- the history before the next call: what is wanted is served first
abbrev pub served : Kept → List Entry → List Entry
served now history = with_wanted history (wanted_of now.steering)

-- ---- by the rate that the control began at

abbrev pub began_at : Option Steering → Option ℕ
began_at None = None
began_at (Some s) = Some s.start

-- what a control that began so asks for behind a history
abbrev pub asked : Option ℕ → List Entry → Option Wanted
asked None history = None
asked (Some start) history = (steered start history).wanted

-- the history with what such a control asks for
abbrev pub with_asked : Option ℕ → List Entry → List Entry
with_asked control history = with_wanted history (asked control history)

-- what it answers to the reply to a report
abbrev pub answered_if : Option ℕ → List Entry → Reply → Option Answer
answered_if None history given = None
answered_if (Some start) history given = answered start history given

-- the sender stands for this history, or for it with what the control asks for behind it
abbrev pub IsBehind : Kept → List Entry → Type 0
IsBehind now history = StandsFor now history ⊎ StandsFor now (with_asked (began_at now.steering) history)

-- ---- how it begins

abbrev pub IsControl : Control → Type 0
IsControl Gradient = Unit {0}
IsControl (Level start) = IsRate start

-- the rate that it begins at
abbrev pub start_of : Control → Option ℕ
start_of Gradient = None
start_of (Level start) = Some start

-- what a control asks for first
abbrev pub first_wanted : Control → Option Wanted
first_wanted Gradient = None
first_wanted (Level start) = (begun start).wanted

abbrev pub first : Control → List Entry
first control = with_wanted [] (first_wanted control)
