-- What a trace is, without where it lies in memory.
use Rattle.std.specs.Prelude.{◌≡◌, ℕ, ◌<◌, ◌≤◌, List, length, map}
use Rattle.std.specs.List.{All}
use Rattle.gcc_units.specs.Listed.{bare}
use Rattle.gcc_units.specs.declared.limits.TheConstants.{MOST_ACTORS, MOST_LINES}
use Rattle.send_core.specs.declared.call.Call.{Call}
use Rattle.send_core.specs.declared.call.Call.TheVariants.{Enqueue, Pace, Report, Configure}
use Rattle.send_core.specs.declared.call.Change.{Change}
use Rattle.call_trace.specs.declared.trace.Action.{Action}
use Rattle.call_trace.specs.declared.trace.Action.TheVariants.{Ask, Look}
use Rattle.call_trace.specs.declared.trace.Line.{Line}
use Rattle.call_trace.specs.declared.trace.Trace.{Trace}

pub record Plain : Type 0 where
  pub actors : ℕ
  pub lines : List Line

abbrev pub plain : Trace → Plain
plain trace = record { actors = trace.actors; lines = trace.lines.items }

-- ---- lists that promise no room

abbrev pub settled_change : Change → Change
settled_change change = record change { streams = bare change.streams.items; removed = bare change.removed.items }

abbrev pub settled_call : Call → Call
settled_call (Enqueue at class wire) = Enqueue at class (bare wire.items)
settled_call (Pace at) = Pace at
settled_call (Report at bytes) = Report at (bare bytes.items)
settled_call (Configure at change) = Configure at (settled_change change)

abbrev pub settled_action : Action → Action
settled_action (Ask call) = Ask (settled_call call)
settled_action Look = Look

abbrev pub settled_line : Line → Line
settled_line line = record { actor = line.actor; action = settled_action line.action }

-- the trace with each of its lists settled
abbrev pub settled : Plain → Plain
settled trace = record { actors = trace.actors; lines = map settled_line trace.lines }

-- each list of the trace is settled
pub record IsSettled (trace : Trace) : Type 0 where
  pub lines : trace.lines ≡ bare trace.lines.items
  pub each : plain trace ≡ settled (plain trace)

-- ---- traces within the limits

-- a packet or a report is not empty
abbrev pub HasBytes : Action → Type 0
HasBytes (Ask (Enqueue at class wire)) = 0 < length wire.items
HasBytes (Ask (Pace at)) = Unit {0}
HasBytes (Ask (Report at bytes)) = 0 < length bytes.items
HasBytes (Ask (Configure at change)) = Unit {0}
HasBytes Look = Unit {0}

-- the line is of one of so many actors, and its packet or report is not empty
pub record FitsLine (actors : ℕ) (line : Line) : Type 0 where
  pub actor : line.actor < actors
  pub bytes : HasBytes line.action

-- what a trace has to be in order to have a spelling
pub record Fits (trace : Plain) : Type 0 where
  pub some_actor : 0 < trace.actors
  pub few_actors : trace.actors ≤ MOST_ACTORS
  pub few_lines : length trace.lines ≤ MOST_LINES
  pub each : All (FitsLine trace.actors) trace.lines
