-- Legal text: the printed history of a legal history that merges a trace, with a legal glance for each line in which an actor looks.
use Rattle.std.specs.Prelude.{◌≡◌, ℕ, ◌≤◌, ◌==◌, ◌&&◌, Bool, true, false, Some, List, length, take, slice_get, count_by}
use Rattle.std.specs.List.{flat_map}
use Rattle.send_core.specs.declared.call.Entry.{Entry}
use Rattle.send_core.specs.Reply.{IsLegal, target}
use Rattle.call_trace.specs.declared.trace.Action.{Action}
use Rattle.call_trace.specs.declared.trace.Action.TheVariants.{Ask, Look}
use Rattle.call_trace.specs.declared.trace.Line.{Line}
use Rattle.call_trace.specs.Merge.{calls_of, calls_by, Merges}
use Rattle.reply_text.specs.declared.seen.Seen.{Seen}
use Rattle.reply_text.specs.Text.{text}

-- ---- glances

abbrev pub is_look : Action → Bool
is_look (Ask call) = false
is_look Look = true

abbrev pub looks : ℕ → Line → Bool
looks actor line = (line.actor == actor) && is_look line.action

-- how often an actor looks in these lines
abbrev pub looks_of : ℕ → List Line → ℕ
looks_of actor lines = count_by (looks actor) lines

-- the line in which an actor looks
abbrev pub look_of : ℕ → Line
look_of actor = record { actor = actor; action = Look }

-- an actor looks behind these lines: it sees the target after the entries that it counts, and its calls among those entries are those of
-- its lines before: all of them, and none of a later line
pub record IsLegalGlance (history : List Entry) (before : List Line) (actor : ℕ) (glance : Seen) : Type 0 where
  pub target : glance.target ≡ target (take glance.calls history)
  pub place : calls_by actor (take glance.calls history) ≡ calls_of actor before

-- an actor's glances: one for each line in which it looks, each of no more entries than there are, and of no fewer than the one before
pub record AreLegalGlances (history : List Entry) (lines : List Line) (actor : ℕ) (glances : List Seen) : Type 0 where
  pub count : length glances ≡ looks_of actor lines
  pub each : (n : ℕ) (line : Line) → slice_get lines n ≡ Some line → line ≡ look_of actor
      → (glance : Seen) × (slice_get glances (looks_of actor (take n lines)) ≡ Some glance) × IsLegalGlance history (take n lines) actor glance
  pub within : (k : ℕ) (glance : Seen) → slice_get glances k ≡ Some glance → (glance.actor ≡ actor) × (glance.calls ≤ length history)
  pub rising : (j k : ℕ) (earlier later : Seen) → j ≤ k → slice_get glances j ≡ Some earlier → slice_get glances k ≡ Some later → earlier.calls ≤ later.calls

-- the glances of all actors, in rising order of actor
pub record AreGlancesOf (history : List Entry) (lines : List Line) (actors : ℕ) (glances : List Seen) : Type 0 where
  pub given : List (List Seen)
  pub count : length given ≡ actors
  pub whole : glances ≡ flat_map (λ own. own) given
  pub each : (actor : ℕ) (own : List Seen) → slice_get given actor ≡ Some own → AreLegalGlances history lines actor own

-- ---- texts

-- the bytes are the printed history of a legal history that merges the lines, and of legal glances
pub record IsLegalText (lines : List Line) (actors : ℕ) (bytes : List ℕ) : Type 0 where
  pub history : List Entry
  pub glances : List Seen
  pub legal : IsLegal history
  pub merges : Merges lines history
  pub seen : AreGlancesOf history lines actors glances
  pub spelled : bytes ≡ text history glances
