-- The first bad line of bytes, and in it the first bad field.
use Rattle.std.specs.Prelude.{◌≡◌, ◌≢◌, ℕ, ◌+◌, ◌<◌, ◌≤◌, ◌^◌, ◌⊎◌, nat_eq, if◌then◌else◌, List, [], ◌∷◌, ◌++◌, length, codes, Option, Some, None}
use Rattle.std.specs.List.{AllZip}
use Rattle.std.specs.Fmt.{decimal}
use Rattle.std.specs.Cmp.Lexicographic.{pointwise}
use Rattle.gcc_units.specs.declared.class.Class.{Class}
use Rattle.gcc_units.specs.declared.limits.TheConstants.{MOST_ACTORS}
use Rattle.send_core.specs.declared.call.Change.{Change}
use Rattle.call_trace.specs.declared.fault.TheConstants.{NO_HEADER, NO_ACTOR, NO_VERB, NO_MOMENT, NO_HEX, TOO_MANY_LINES, NO_END, BEHIND_END}
use Rattle.call_trace.specs.declared.fault.TraceFault.{TraceFault}
use Rattle.call_trace.specs.declared.fault.ReadTrace.{ReadTrace}
use Rattle.call_trace.specs.declared.fault.ReadTrace.TheVariants as read_trace
use Rattle.call_trace.specs.declared.trace.Line.{Line}
use Rattle.call_trace.specs.Fields.{field, behind, lines_of}
use Rattle.call_trace.specs.Settings.{SpellsChange, IsNoChange}
use Rattle.call_trace.specs.Plain.{Plain}
use Rattle.call_trace.specs.Reading.{fault}
use Rattle.call_trace.specs.Grammar.{letter_of, IsHex, IsLine, header, IsTrace}

-- what stands in a field
pub data Kind : Type 0 where
  actor : Kind
  moment : Kind
  class : Kind
  hex : Kind
  json : Kind

-- the fields behind a verb
abbrev pub kinds_of : List ℕ → Option (List Kind)
kinds_of verb =
    if pointwise nat_eq verb (codes "E") then Some (actor ∷ moment ∷ class ∷ hex ∷ [])
    else if pointwise nat_eq verb (codes "P") then Some (actor ∷ moment ∷ [])
    else if pointwise nat_eq verb (codes "R") then Some (actor ∷ moment ∷ hex ∷ [])
    else if pointwise nat_eq verb (codes "C") then Some (actor ∷ moment ∷ json ∷ [])
    else if pointwise nat_eq verb (codes "G") then Some (actor ∷ [])
    else None

abbrev pub IsGood : ℕ → Kind → List ℕ → Type 0
IsGood actors actor text = (n : ℕ) × (n < actors) × (text ≡ decimal n)
IsGood actors moment text = (n : ℕ) × (n < 2 ^ 64) × (text ≡ decimal n)
IsGood actors class text = (c : Class) × (text ≡ letter_of c)
IsGood actors hex text = (octets : List ℕ) × IsHex text octets
IsGood actors json text = (change : Change) × SpellsChange text change

-- why a field that is no good one is bad
abbrev pub IsReason : Kind → List ℕ → ℕ → Type 0
IsReason actor text reason = reason ≡ NO_ACTOR
IsReason moment text reason = reason ≡ NO_MOMENT
IsReason class text reason = reason ≡ NO_VERB
IsReason hex text reason = reason ≡ NO_HEX
IsReason json text reason = IsNoChange text reason

-- the first bad one of a text's fields has this reason; the last field is all that is left, and one that is not there is empty
abbrev pub IsFirstBad : ℕ → List Kind → List ℕ → ℕ → Type 0
IsFirstBad actors [] text reason = ⊥
IsFirstBad actors (kind ∷ []) text reason = (¬ IsGood actors kind text) × IsReason kind text reason
IsFirstBad actors (kind ∷ next ∷ kinds) text reason =
    ((¬ IsGood actors kind (field text)) × IsReason kind (field text) reason)
    ⊎ (IsGood actors kind (field text) × IsFirstBad actors (next ∷ kinds) (behind text) reason)

-- a line whose verb is none, or whose fields are these
abbrev pub IsBadOf : ℕ → Option (List Kind) → List ℕ → ℕ → Type 0
IsBadOf actors None text reason = reason ≡ NO_VERB
IsBadOf actors (Some kinds) text reason = IsFirstBad actors kinds text reason

-- the line is no line of action, for this reason
abbrev pub IsBadLine : ℕ → List ℕ → ℕ → Type 0
IsBadLine actors line reason = IsBadOf actors (kinds_of (field line)) (behind line) reason

abbrev pub IsHeader : List ℕ → Type 0
IsHeader line = (actors : ℕ) × (0 < actors) × (actors ≤ MOST_ACTORS) × (line ≡ header actors)

-- each of the texts is a line of action
abbrev pub AreActions : ℕ → List (List ℕ) → Type 0
AreActions actors texts = (lines : List Line) × AllZip (IsLine actors) texts lines

-- the whole lines of the bytes: a header, lines of action, no more than there may be, and those behind them
pub record Begins (most : ℕ) (bytes : List ℕ) (actors : ℕ) (before after : List (List ℕ)) : Type 0 where
  pub some_actor : 0 < actors
  pub few_actors : actors ≤ MOST_ACTORS
  pub whole : (lines_of bytes).whole ≡ header actors ∷ (before ++ after)
  pub actions : AreActions actors before
  pub few : length before ≤ most

-- the fault of bytes that are no trace of at most so many lines of action: of its first bad line, counted from 1
pub data IsFirstFault (most : ℕ) (bytes : List ℕ) (f : TraceFault) : Type 0 where
  -- there is no whole line
  no_line : (lines_of bytes).whole ≡ [] → f ≡ fault 1 NO_END → IsFirstFault most bytes f
  -- the first line is no header
  no_header : (line : List ℕ) (lines : List (List ℕ)) → (lines_of bytes).whole ≡ line ∷ lines → ¬ IsHeader line → f ≡ fault 1 NO_HEADER → IsFirstFault most bytes f
  -- a line that is not `end`, behind fewer lines of action than there may be, has a bad field
  bad_line : (actors : ℕ) (before : List (List ℕ)) (line : List ℕ) (after : List (List ℕ)) (reason : ℕ) → Begins most bytes actors before (line ∷ after) → line ≢ codes "end" → length before < most
      → IsBadLine actors line reason → f ≡ fault (length before + 2) reason → IsFirstFault most bytes f
  -- a line that is not `end` stands behind as many lines of action as there may be
  too_many : (actors : ℕ) (before : List (List ℕ)) (line : List ℕ) (after : List (List ℕ)) → Begins most bytes actors before (line ∷ after) → line ≢ codes "end" → length before ≡ most
      → f ≡ fault (most + 2) TOO_MANY_LINES → IsFirstFault most bytes f
  -- no line stands behind the lines of action
  no_end : (actors : ℕ) (before : List (List ℕ)) → Begins most bytes actors before [] → f ≡ fault (length before + 2) NO_END → IsFirstFault most bytes f
  -- bytes stand behind `end`
  behind_end : (actors : ℕ) (before after : List (List ℕ)) → Begins most bytes actors before (codes "end" ∷ after) → 0 < length after + length (lines_of bytes).rest
      → f ≡ fault (length before + 3) BEHIND_END → IsFirstFault most bytes f

-- the fault of bytes that begin with no trace of at most so many lines of action
abbrev pub IsFrontFault : ℕ → List ℕ → TraceFault → Type 0
IsFrontFault most bytes f = IsFirstFault most bytes f × (f.reason ≢ BEHIND_END)

-- ---- bytes that are a trace, and bytes that are none

-- the bytes spell a trace of at most so many lines of action
pub record HasTrace (most : ℕ) (bytes : List ℕ) : Type 0 where
  pub trace : Plain
  pub spelled : IsTrace bytes trace
  pub few : length trace.lines ≤ most

-- the bytes have a first bad line
pub record HasFirstFault (most : ℕ) (bytes : List ℕ) : Type 0 where
  pub found : TraceFault
  pub first : IsFirstFault most bytes found

-- the first of the bytes spell a trace of at most so many lines of action
pub record HasFront (most : ℕ) (bytes : List ℕ) : Type 0 where
  pub front : List ℕ
  pub back : List ℕ
  pub split : bytes ≡ front ++ back
  pub trace : Plain
  pub spelled : IsTrace front trace
  pub few : length trace.lines ≤ most

-- the bytes have a first bad line, up to the line `end`
pub record HasFrontFault (most : ℕ) (bytes : List ℕ) : Type 0 where
  pub found : TraceFault
  pub first : IsFrontFault most bytes found

-- a fact of the fault; where memory ran out, none is told
abbrev pub IfFault : ReadTrace → (TraceFault → Type 0) → Type 0
IfFault (read_trace.Fault f) P = P f
IfFault read_trace.NoMemory P = Unit {0}
