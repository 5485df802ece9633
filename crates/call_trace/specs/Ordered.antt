-- The legal history that serves the calls of a trace in the order of its lines.
use Rattle.std.specs.Prelude.{ℕ, List, [], ◌∷◌, ◌++◌}
use Rattle.send_core.specs.declared.call.Entry.{Entry}
use Rattle.send_core.specs.History.{entry}
use Rattle.send_core.specs.Reply.{reply}
use Rattle.call_trace.specs.declared.trace.Action.{Action}
use Rattle.call_trace.specs.declared.trace.Action.TheVariants.{Ask, Look}
use Rattle.call_trace.specs.declared.trace.Line.{Line}

abbrev pub served_by : List Entry → ℕ → Action → List Entry
served_by history actor (Ask call) = entry actor call (reply history call) ∷ []
served_by history actor Look = []

-- the entry that a line adds; a glance adds none
abbrev pub added : List Entry → Line → List Entry
added history line = served_by history line.actor line.action

-- the history after these lines, where this one stands before them
unfoldable pub served : List Entry → List Line → List Entry
served history [] = history
served history (line ∷ lines) = served (history ++ added history line) lines

unfoldable pub ordered : List Line → List Entry
ordered lines = served [] lines
