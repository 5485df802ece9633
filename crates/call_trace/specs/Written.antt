-- How a trace is written: hex in lower case, and of a change the keys that are there, compact and in rising order.
use Rattle.std.specs.Prelude.{ℕ, List, [], ◌∷◌, ◌++◌, map, codes, Bool, Option, Some, None, option_map}
use Rattle.std.specs.List.{flat_map}
use Rattle.std.specs.Fmt.{decimal}
use Rattle.hex.specs.Hex.{encode_lower}
use Rattle.serde_json.specs.Data.{unsigned, Data, boolean, number, array, object, Members, no_members, member, put}
use Rattle.serde_json.specs.View.{items_of}
use Rattle.serde_json.specs.Written.{compact_text}
use Rattle.allocator.specs.declared.stream.Stream.{Stream}
use Rattle.send_core.specs.declared.call.Call.{Call}
use Rattle.send_core.specs.declared.call.Call.TheVariants.{Enqueue, Pace, Report, Configure}
use Rattle.send_core.specs.declared.call.Change.{Change}
use Rattle.call_trace.specs.declared.trace.Action.{Action}
use Rattle.call_trace.specs.declared.trace.Action.TheVariants.{Ask, Look}
use Rattle.call_trace.specs.declared.trace.Line.{Line}
use Rattle.call_trace.specs.Plain.{Plain}
use Rattle.call_trace.specs.Fields.{IsLineText, fed}
use Rattle.call_trace.specs.Grammar.{spaced, letter_of, IsAction, header}

-- ---- changes

abbrev pub whole_json : ℕ → Data
whole_json n = number (unsigned n)

abbrev pub truth_json : Bool → Data
truth_json b = boolean b

-- an empty list counts as not there
abbrev pub list_json : {A : Type 0} → (A → Data) → List A → Option Data
list_json json [] = None
list_json json (x ∷ xs) = Some (array (items_of (map json (x ∷ xs))))

abbrev pub stream_json : Stream → Data
stream_json s =
    object (
    member (codes "enforced") (truth_json s.enforced)
    (member (codes "id") (whole_json s.id)
    (member (codes "max") (whole_json s.max)
    (member (codes "min") (whole_json s.min)
    (member (codes "weight") (whole_json s.weight) no_members)))))

-- a key, and its value if it is there
abbrev pub Setting : Type 0
Setting = List ℕ × Option Data

abbrev pub with_member : List ℕ → Option Data → Members → Members
with_member key None ms = ms
with_member key (Some d) ms = member key d ms

-- the members that are there
abbrev pub present : List Setting → Members
present [] = no_members
present (s ∷ settings) = with_member s.0 s.1 (present settings)

-- the members with one put in, if it is there
abbrev pub put_if : List ℕ → Option Data → Members → Members
put_if key None ms = ms
put_if key (Some d) ms = put key d ms

-- in rising order of key
abbrev pub settings_of : Change → List Setting
settings_of change =
    (codes "extension_id", option_map whole_json change.extension_id)
    ∷ (codes "max", option_map whole_json change.max)
    ∷ (codes "min", option_map whole_json change.min)
    ∷ (codes "paced_audio", option_map truth_json change.paced_audio)
    ∷ (codes "pacing_percent", option_map whole_json change.pacing_percent)
    ∷ (codes "padding_rate", option_map whole_json change.padding_rate)
    ∷ (codes "probe", option_map whole_json change.probe)
    ∷ (codes "removed", list_json whole_json change.removed.items)
    ∷ (codes "start", option_map whole_json change.start)
    ∷ (codes "streams", list_json stream_json change.streams.items)
    ∷ (codes "window", option_map whole_json change.window)
    ∷ []

unfoldable pub change_json : Change → Data
change_json change = object (present (settings_of change))

-- ---- traces

abbrev pub call_text : ℕ → Call → List ℕ
call_text actor (Enqueue at class wire) = spaced (codes "E" ∷ decimal actor ∷ decimal at ∷ letter_of class ∷ encode_lower wire.items ∷ [])
call_text actor (Pace at) = spaced (codes "P" ∷ decimal actor ∷ decimal at ∷ [])
call_text actor (Report at bytes) = spaced (codes "R" ∷ decimal actor ∷ decimal at ∷ encode_lower bytes.items ∷ [])
call_text actor (Configure at change) = spaced (codes "C" ∷ decimal actor ∷ decimal at ∷ compact_text (change_json change) ∷ [])

abbrev pub action_text : ℕ → Action → List ℕ
action_text actor (Ask call) = call_text actor call
action_text actor Look = spaced (codes "G" ∷ decimal actor ∷ [])

abbrev pub line_text : Line → List ℕ
line_text line = action_text line.actor line.action

-- what is written of the action spells it, in one line
pub record IsSpelled (actor : ℕ) (action : Action) : Type 0 where
  pub spelled : IsAction (action_text actor action) actor action
  pub feedless : IsLineText (action_text actor action)

unfoldable pub trace_text : Plain → List ℕ
trace_text trace = fed (header trace.actors) ++ (flat_map fed (map line_text trace.lines) ++ fed (codes "end"))
