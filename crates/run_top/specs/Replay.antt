-- What a trace is replayed to: the history of its calls in the order of its lines, and its glances.
use Rattle.std.specs.Prelude.{◌≡◌, ℕ, ◌==◌, nat_lt, if◌then◌else◌, List, [], ◌∷◌, ◌++◌, length, filter, Result, Ok, Err}
use Rattle.std.specs.List.{flat_map, range_with_len}
use Rattle.gcc_units.specs.declared.limits.TheConstants.{MOST_LINES, MOST_TRACE_BYTES}
use Rattle.send_core.specs.declared.call.Entry.{Entry}
use Rattle.send_core.specs.Reply.{target}
use Rattle.call_trace.specs.declared.fault.TraceFault.{TraceFault}
use Rattle.call_trace.specs.declared.trace.Line.{Line}
use Rattle.call_trace.specs.declared.trace.Action.{Action}
use Rattle.call_trace.specs.declared.trace.Action.TheVariants.{Ask, Look}
use Rattle.call_trace.specs.declared.fault.ReadTrace.{ReadTrace}
use Rattle.call_trace.specs.Plain.{Plain}
use Rattle.gcc_units.specs.Listed.{Listed, bare}
use Rattle.call_trace.specs.Reading.{trace_at, fault, FailsTrace}
use Rattle.call_trace.specs.Grammar.{IsTrace}
use Rattle.call_trace.specs.Ordered.{ordered}
use Rattle.reply_text.specs.declared.seen.Seen.{Seen}
use Rattle.reply_text.specs.Text.{text}
use Rattle.call_trace.specs.declared.fault.TheConstants.{TOO_LONG}

-- what an actor sees of a history
abbrev pub seen_at : List Entry → ℕ → Seen
seen_at history actor = record { actor = actor; calls = length history; target = target history }

abbrev pub looked : List Entry → ℕ → Action → List Seen
looked history actor (Ask call) = []
looked history actor Look = seen_at history actor ∷ []

-- the glances of the lines behind others, in their order: each sees the calls of the lines before it
abbrev pub seen_from : List Line → List Line → List Seen
seen_from before [] = []
seen_from before (line ∷ lines) = looked (ordered before) line.actor line.action ++ seen_from (before ++ line ∷ []) lines

abbrev pub of_actor : List Seen → ℕ → List Seen
of_actor seen actor = filter (λ (g : Seen). g.actor == actor) seen

-- the glances of a trace, in rising order of actor
abbrev pub glances : Plain → List Seen
glances trace = flat_map (of_actor (seen_from [] trace.lines)) (range_with_len 0 trace.actors)

-- the printed history of a trace
abbrev pub replayed : Plain → List ℕ
replayed trace = text (ordered trace.lines) (glances trace)

-- the trace that all bytes of a source spell, or their fault: that there are too many, or the first bad line
abbrev pub input : List ℕ → Result Plain TraceFault
input bytes = if nat_lt MOST_TRACE_BYTES (length bytes) then Err (fault 0 TOO_LONG) else trace_at MOST_LINES bytes

-- the bytes spell a trace, and this is its text; or the fault is that of the bytes
abbrev pub GivesText : List ℕ → Result (Listed ℕ) ReadTrace → Result Plain TraceFault → Type 0
GivesText bytes (Ok text) read = (trace : Plain) × (read ≡ Ok trace) × IsTrace bytes trace × (text ≡ bare (replayed trace))
GivesText bytes (Err e) read = FailsTrace e read
