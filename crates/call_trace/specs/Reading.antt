-- Reading a trace line by line, and a line field by field, up to the first that is bad.
use Rattle.std.specs.Prelude.{◌≡◌, ℕ, ◌+◌, ◌-◌, nat_lt, nat_le, ◌==◌, ◌&&◌, Bool, if◌then◌else◌, List, [], ◌∷◌, ◌++◌, length, take, drop, codes, nat_eq, Result, Ok, Err}
use Rattle.std.specs.List.{flat_map}
use Rattle.std.specs.Cmp.Lexicographic.{pointwise}
use Rattle.hex.specs.declared.error.FromHexError.{FromHexError}
use Rattle.hex.specs.Hex.{decode_of}
use Rattle.gcc_units.specs.declared.class.Class.{Class}
use Rattle.gcc_units.specs.declared.class.Class.TheVariants.{Audio, Retransmission, Video, Fec}
use Rattle.gcc_units.specs.declared.limits.TheConstants.{MOST_ACTORS}
use Rattle.gcc_units.specs.Listed.{Listed, bare}
use Rattle.send_core.specs.declared.call.Call.TheVariants.{Enqueue, Pace, Report, Configure}
use Rattle.call_trace.specs.declared.fault.TheConstants.{NO_HEADER, NO_ACTOR, NO_VERB, NO_MOMENT, NO_HEX, TOO_MANY_LINES, NO_END, BEHIND_END}
use Rattle.call_trace.specs.declared.fault.Bad.{Bad}
use Rattle.call_trace.specs.declared.fault.Bad.TheVariants as bad
use Rattle.call_trace.specs.declared.fault.TraceFault.{TraceFault}
use Rattle.call_trace.specs.declared.fault.ReadTrace.{ReadTrace}
use Rattle.call_trace.specs.declared.fault.ReadTrace.TheVariants as read_trace
use Rattle.call_trace.specs.declared.trace.Line.{Line}
use Rattle.call_trace.specs.declared.trace.Action.TheVariants.{Ask, Look}
use Rattle.call_trace.specs.declared.trace.Trace.{Trace}
use Rattle.call_trace.specs.Steps.{◌>>=◌, or_reason}
use Rattle.call_trace.specs.ChangeReading.{json_at}
use Rattle.call_trace.specs.Plain.{Plain, plain}
use Rattle.call_trace.specs.Fields.{field, behind, lines_of, fed, number_of}

-- ---- fields

abbrev pub below : ℕ → ℕ → Result ℕ ℕ
below actors n = if nat_lt n actors then Ok n else Err NO_ACTOR

abbrev pub actor_at : ℕ → List ℕ → Result ℕ ℕ
actor_at actors text = or_reason NO_ACTOR (number_of text) >>= below actors

abbrev pub moment_at : List ℕ → Result ℕ ℕ
moment_at text = or_reason NO_MOMENT (number_of text)

abbrev pub class_of : ℕ → Result Class ℕ
class_of letter =
    if letter == 97 then Ok Audio
    else if letter == 114 then Ok Retransmission
    else if letter == 118 then Ok Video
    else if letter == 102 then Ok Fec
    else Err NO_VERB

abbrev pub class_at : List ℕ → Result Class ℕ
class_at [] = Err NO_VERB
class_at (letter ∷ []) = class_of letter
class_at (a ∷ b ∷ more) = Err NO_VERB

abbrev pub decoded : Result (List ℕ) FromHexError → Result (Listed ℕ) ℕ
decoded (Ok bytes) = Ok (bare bytes)
decoded (Err e) = Err NO_HEX

abbrev pub hex_at : List ℕ → Result (Listed ℕ) ℕ
hex_at [] = Err NO_HEX
hex_at (b ∷ text) = decoded (decode_of (b ∷ text))

-- ---- lines

unfoldable pub enqueue_at : ℕ → List ℕ → Result Line ℕ
enqueue_at actors rest = do
  actor ← actor_at actors (field rest)
  at ← moment_at (field (behind rest))
  class ← class_at (field (behind (behind rest)))
  wire ← hex_at (behind (behind (behind rest)))
  Ok (record { actor = actor; action = Ask (Enqueue at class wire) })

unfoldable pub pace_at : ℕ → List ℕ → Result Line ℕ
pace_at actors rest = do
  actor ← actor_at actors (field rest)
  at ← moment_at (behind rest)
  Ok (record { actor = actor; action = Ask (Pace at) })

unfoldable pub report_at : ℕ → List ℕ → Result Line ℕ
report_at actors rest = do
  actor ← actor_at actors (field rest)
  at ← moment_at (field (behind rest))
  bytes ← hex_at (behind (behind rest))
  Ok (record { actor = actor; action = Ask (Report at bytes) })

unfoldable pub configure_at : ℕ → List ℕ → Result Line ℕ
configure_at actors rest = do
  actor ← actor_at actors (field rest)
  at ← moment_at (field (behind rest))
  change ← json_at (behind (behind rest))
  Ok (record { actor = actor; action = Ask (Configure at change) })

unfoldable pub glance_at : ℕ → List ℕ → Result Line ℕ
glance_at actors rest = do
  actor ← actor_at actors rest
  Ok (record { actor = actor; action = Look })

abbrev pub verb_at : ℕ → ℕ → List ℕ → Result Line ℕ
verb_at actors letter rest =
    if letter == 69 then enqueue_at actors rest
    else if letter == 80 then pace_at actors rest
    else if letter == 82 then report_at actors rest
    else if letter == 67 then configure_at actors rest
    else if letter == 71 then glance_at actors rest
    else Err NO_VERB

abbrev pub fields_at : ℕ → List ℕ → List ℕ → Result Line ℕ
fields_at actors [] rest = Err NO_VERB
fields_at actors (letter ∷ []) rest = verb_at actors letter rest
fields_at actors (a ∷ b ∷ more) rest = Err NO_VERB

-- a line of action, or the reason of its first bad field
unfoldable pub action_at : ℕ → List ℕ → Result Line ℕ
action_at actors line = fields_at actors (field line) (behind line)

abbrev pub fault : ℕ → ℕ → TraceFault
fault line reason = record { line = line; reason = reason }

abbrev pub at_line : {A : Type 0} → ℕ → Result A ℕ → Result A TraceFault
at_line k (Ok x) = Ok x
at_line k (Err r) = Err (fault k r)

-- the line without anything else
abbrev pub is_end : List ℕ → Bool
is_end line = pointwise nat_eq line (codes "end")

-- lines of action, and the lines behind their end
pub record Actions : Type 0 where
  pub lines : List Line
  pub after : List (List ℕ)

-- the lines of action, the first of them line k, up to the line `end`; no more than most
unfoldable pub actions_at : ℕ → ℕ → ℕ → List (List ℕ) → Result Actions TraceFault
actions_at most actors k [] = Err (fault k NO_END)
actions_at most actors k (line ∷ lines) =
    if is_end line then Ok (record { lines = []; after = lines })
    else if nat_lt (most + 1) k then Err (fault k TOO_MANY_LINES)
    else (do
      first ← at_line k (action_at actors line)
      others ← actions_at most actors (k + 1) lines
      Ok (record { lines = first ∷ others.lines; after = others.after }))

-- the header's bytes before the number of actors
abbrev pub title : List ℕ
title = codes "gcc-trace 1 "

abbrev pub from_one : ℕ → Result ℕ ℕ
from_one n = if nat_le 1 n && nat_le n MOST_ACTORS then Ok n else Err NO_HEADER

-- the number of actors
unfoldable pub header_at : List ℕ → Result ℕ ℕ
header_at line =
    if pointwise nat_eq (take (length title) line) title then or_reason NO_HEADER (number_of (drop (length title) line)) >>= from_one
    else Err NO_HEADER

-- a trace, and the lines behind it
pub record Front : Type 0 where
  pub trace : Plain
  pub after : List (List ℕ)

unfoldable pub lines_at : ℕ → List (List ℕ) → Result Front TraceFault
lines_at most [] = Err (fault 1 NO_END)
lines_at most (line ∷ lines) = do
  actors ← at_line 1 (header_at line)
  read ← actions_at most actors 2 lines
  Ok (record { trace = record { actors = actors; lines = read.lines }; after = read.after })

-- the trace that bytes begin with, or the first fault of one
abbrev pub front_at : ℕ → List ℕ → Result Front TraceFault
front_at most bytes = lines_at most (lines_of bytes).whole

-- nothing stands behind the trace, neither lines nor a rest
abbrev pub alone : Plain → List (List ℕ) → List ℕ → Result Plain TraceFault
alone trace [] [] = Ok trace
alone trace (line ∷ lines) rest = Err (fault (length trace.lines + 3) BEHIND_END)
alone trace [] (b ∷ rest) = Err (fault (length trace.lines + 3) BEHIND_END)

-- the trace that bytes spell, or their first fault; most is how many lines of action there may be
abbrev pub trace_at : ℕ → List ℕ → Result Plain TraceFault
trace_at most bytes = front_at most bytes >>= λ front. alone front.trace front.after (lines_of bytes).rest

-- lines with their line feeds, and what stands behind the last
abbrev pub joined : List (List ℕ) → List ℕ → List ℕ
joined lines rest = flat_map fed lines ++ rest

-- the trace that bytes begin with, and how many of the bytes it has
abbrev pub counted_at : ℕ → List ℕ → Result (Plain × ℕ) TraceFault
counted_at most bytes = front_at most bytes >>= λ front. Ok (front.trace, length bytes - length (joined front.after (lines_of bytes).rest))

-- ---- what the reader answers

abbrev pub FailsTrace : {X : Type 0} → ReadTrace → Result X TraceFault → Type 0
FailsTrace read_trace.NoMemory read = Unit {0}
FailsTrace (read_trace.Fault f) read = read ≡ Err f

abbrev pub GivesTrace : Result Trace ReadTrace → Result Plain TraceFault → Type 0
GivesTrace (Ok trace) read = read ≡ Ok (plain trace)
GivesTrace (Err e) read = FailsTrace e read

-- the trace, and how many bytes it has
abbrev pub GivesFront : Result (Trace × ℕ) ReadTrace → Result (Plain × ℕ) TraceFault → Type 0
GivesFront (Ok p) read = read ≡ Ok (plain p.0, p.1)
GivesFront (Err e) read = FailsTrace e read

abbrev pub located : ℕ → Bad → ReadTrace
located line (bad.Reason reason) = read_trace.Fault (fault line reason)
located line bad.Memory = read_trace.NoMemory
