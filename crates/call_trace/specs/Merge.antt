-- Histories that serve the calls of a trace: each actor's in the order of its lines.
use Rattle.std.specs.Prelude.{◌≡◌, ℕ, ◌==◌, if◌then◌else◌, List, [], ◌∷◌}
use Rattle.std.specs.List.{flat_map}
use Rattle.send_core.specs.declared.call.Call.{Call}
use Rattle.send_core.specs.declared.call.Entry.{Entry}
use Rattle.call_trace.specs.declared.trace.Action.{Action}
use Rattle.call_trace.specs.declared.trace.Action.TheVariants.{Ask, Look}
use Rattle.call_trace.specs.declared.trace.Line.{Line}

abbrev pub call_in : Action → List Call
call_in (Ask call) = call ∷ []
call_in Look = []

-- what an actor asks in a line
abbrev pub asked : ℕ → Line → List Call
asked a line = if line.actor == a then call_in line.action else []

-- an actor's calls in the order of its lines
abbrev pub calls_of : ℕ → List Line → List Call
calls_of a lines = flat_map (asked a) lines

abbrev pub made : ℕ → Entry → List Call
made a e = if e.caller == a then e.call ∷ [] else []

-- an actor's calls in a history
abbrev pub calls_by : ℕ → List Entry → List Call
calls_by a history = flat_map (made a) history

-- each actor's calls in the history are those of its lines, in their order, and no other actor has an entry
abbrev pub Merges : List Line → List Entry → Type 0
Merges lines history = (a : ℕ) → calls_by a history ≡ calls_of a lines
