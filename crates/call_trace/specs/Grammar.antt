-- How a trace is spelled: lines, each with its line feed, of fields that are parted by one space.
use Rattle.std.specs.Prelude.{◌≡◌, ℕ, ◌<◌, ◌≤◌, ◌^◌, List, [], ◌∷◌, ◌++◌, length, codes, Ok}
use Rattle.std.specs.List.{join_with_byte, flat_map, All, AllZip}
use Rattle.std.specs.Fmt.{decimal}
use Rattle.hex.specs.Hex.{decode_of}
use Rattle.gcc_units.specs.declared.class.Class.{Class}
use Rattle.gcc_units.specs.declared.class.Class.TheVariants.{Audio, Retransmission, Video, Fec}
use Rattle.gcc_units.specs.declared.limits.TheConstants.{MOST_ACTORS}
use Rattle.send_core.specs.declared.call.Call.TheVariants.{Enqueue, Pace, Report, Configure}
use Rattle.call_trace.specs.declared.trace.Action.{Action}
use Rattle.call_trace.specs.declared.trace.Action.TheVariants.{Ask, Look}
use Rattle.call_trace.specs.declared.trace.Line.{Line}
use Rattle.call_trace.specs.Plain.{Plain}
use Rattle.call_trace.specs.Settings.{SpellsChange}
use Rattle.call_trace.specs.Fields.{IsLineText, fed}

-- fields with one space between each two
abbrev pub spaced : List (List ℕ) → List ℕ
spaced fields = join_with_byte 32 fields

abbrev pub letter_of : Class → List ℕ
letter_of Audio = codes "a"
letter_of Retransmission = codes "r"
letter_of Video = codes "v"
letter_of Fec = codes "f"

-- one or more pairs of hex digits, in either case
abbrev pub IsHex : List ℕ → List ℕ → Type 0
IsHex text bytes = (0 < length bytes) × (decode_of text ≡ Ok bytes)

-- `E ACTOR AT CLASS HEX`, `P ACTOR AT`, `R ACTOR AT HEX`, `C ACTOR AT JSON`, `G ACTOR`
abbrev pub IsAction : List ℕ → ℕ → Action → Type 0
IsAction text actor (Ask (Enqueue at class wire)) =
    (hex : List ℕ) × IsHex hex wire.items × (at < 2 ^ 64)
    × (text ≡ spaced (codes "E" ∷ decimal actor ∷ decimal at ∷ letter_of class ∷ hex ∷ []))
IsAction text actor (Ask (Pace at)) = (at < 2 ^ 64) × (text ≡ spaced (codes "P" ∷ decimal actor ∷ decimal at ∷ []))
IsAction text actor (Ask (Report at bytes)) =
    (hex : List ℕ) × IsHex hex bytes.items × (at < 2 ^ 64)
    × (text ≡ spaced (codes "R" ∷ decimal actor ∷ decimal at ∷ hex ∷ []))
IsAction text actor (Ask (Configure at change)) =
    (json : List ℕ) × SpellsChange json change × (at < 2 ^ 64)
    × (text ≡ spaced (codes "C" ∷ decimal actor ∷ decimal at ∷ json ∷ []))
IsAction text actor Look = text ≡ spaced (codes "G" ∷ decimal actor ∷ [])

-- a line of action, without its line feed
abbrev pub IsLine : ℕ → List ℕ → Line → Type 0
IsLine actors text line = (line.actor < actors) × IsAction text line.actor line.action

-- `gcc-trace 1 ACTORS`
abbrev pub header : ℕ → List ℕ
header actors = spaced (codes "gcc-trace" ∷ codes "1" ∷ decimal actors ∷ [])

-- the bytes spell the trace: its header, its lines of action, and the line `end`
pub record IsTrace (bytes : List ℕ) (trace : Plain) : Type 0 where
  pub some_actor : 0 < trace.actors
  pub few_actors : trace.actors ≤ MOST_ACTORS
  pub texts : List (List ℕ)
  pub feedless : All IsLineText texts
  pub actions : AllZip (IsLine trace.actors) texts trace.lines
  pub spelled : bytes ≡ fed (header trace.actors) ++ (flat_map fed texts ++ fed (codes "end"))
