-- What a trace of one actor is served to where lost packets are sent again.
use Rattle.std.specs.Prelude.{◌≡◌, ℕ, nat_lt, ◌==◌, if◌then◌else◌, List, ◌++◌, length, Result, Ok, Err}
use Rattle.call_trace.specs.declared.fault.TraceFault.{TraceFault}
use Rattle.call_trace.specs.declared.fault.TheConstants.{MANY_ACTORS, MANY_LINES}
use Rattle.call_trace.specs.Plain.{Plain}
use Rattle.call_trace.specs.Reading.{fault}
use Rattle.reply_text.specs.Text.{text}
use Rattle.resending.specs.declared.serving.TheConstants.{MOST_RESEND_LINES}
use Rattle.resending.specs.NackText.{nack_lines}
use Rattle.resending.specs.Serving.{Serving}
use Rattle.run_top.specs.declared.status.Status.{Status}
use Rattle.run_top.specs.declared.status.Status.TheVariants as status
use Rattle.run_top.specs.Replay.{input}

-- ---- what is read

-- a trace of one actor and of no more lines than are served; or the fault of the header, or that of the lines
abbrev pub only_one : Plain → Result Plain TraceFault
only_one trace =
    if trace.actors == 1 then (if nat_lt MOST_RESEND_LINES (length trace.lines) then Err (fault 0 MANY_LINES) else Ok trace)
    else Err (fault 1 MANY_ACTORS)

abbrev pub if_one : Result Plain TraceFault → Result Plain TraceFault
if_one (Ok trace) = only_one trace
if_one (Err f) = Err f

-- the trace that all bytes of a source spell; or their fault, and then that of other actors or of too many lines
abbrev pub one_input : List ℕ → Result Plain TraceFault
one_input bytes = if_one (input bytes)

-- the status names the fault of the trace
abbrev pub IsRefusal : Result Plain TraceFault → Status → Type 0
IsRefusal (Ok trace) ended = ⊥
IsRefusal (Err f) ended = ended ≡ status.BadTrace f.line f.reason

-- ---- what is written

-- the printed history with its glances, and a line for each NACK
abbrev pub resent_text : Serving → List ℕ
resent_text v = text v.history v.glances ++ nack_lines v.nacks
