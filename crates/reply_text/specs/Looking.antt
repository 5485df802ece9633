-- How printed glances are read, and what is kept of a history in order to judge them.
use Rattle.std.specs.Prelude.{◌≡◌, ℕ, ◌^◌, ◌≤◌, ◌<◌, ◌+◌, nat_lt, if◌then◌else◌, false, Option, None, Some, List, [], ◌∷◌, ◌++◌, length, take, slice_get}
use Rattle.send_core.specs.declared.call.Entry.{Entry}
use Rattle.send_core.specs.Reply.{target}
use Rattle.call_trace.specs.declared.trace.Line.{Line}
use Rattle.call_trace.specs.Merge.{asked, calls_by}
use Rattle.call_trace.specs.Fields.{field, behind, number_of}
use Rattle.reply_text.specs.declared.seen.Seen.{Seen}
use Rattle.reply_text.specs.declared.looking.Standing.{Standing}
use Rattle.reply_text.specs.declared.looking.Act.{Act}
use Rattle.reply_text.specs.declared.looking.Act.TheVariants as act
use Rattle.reply_text.specs.Legal.{looks, look_of, AreLegalGlances}

infixl 10 ◌>>=◌
abbrev ◌>>=◌ : {A B : Type 0} → Option A → (A → Option B) → Option B
None >>= f = None
(Some x) >>= f = f x

-- a number below 2^32
abbrev pub small : Option ℕ → Option ℕ
small None = None
small (Some n) = if nat_lt n (2 ^ 32) then Some n else None

-- actor, calls and target of a glance's line
abbrev pub seen_in : List ℕ → Option Seen
seen_in line = do
  actor ← small (number_of (field line))
  calls ← small (number_of (field (behind (behind (behind line)))))
  target ← number_of (behind (behind (behind (behind line))))
  Some (record { actor = actor; calls = calls; target = target })

abbrev pub seen_before : Option Seen → List Seen → List Seen
seen_before None others = []
seen_before (Some seen) others = seen ∷ others

-- the glances of lines, up to the first that cannot be read
abbrev pub glances_in : List (List ℕ) → List Seen
glances_in [] = []
glances_in (line ∷ lines) = seen_before (seen_in line) (glances_in lines)

-- the target after each number of entries
pub record AreTargets (history : List Entry) (targets : List ℕ) : Type 0 where
  pub count : length targets ≡ length history + 1
  pub each : (c : ℕ) → c ≤ length history → slice_get targets c ≡ Some (target (take c history))
  pub small : (c : ℕ) → c ≤ length history → target (take c history) < 2 ^ 64

-- a glance is the actor's, counts no fewer entries than this and no more than there are, sees the target after them, and so many of them
-- are the actor's
pub record IsSeen (history : List Entry) (actor least asked : ℕ) (glance : Seen) : Type 0 where
  pub own : glance.actor ≡ actor
  pub rising : least ≤ glance.calls
  pub within : glance.calls ≤ length history
  pub target : glance.target ≡ target (take glance.calls history)
  pub place : length (calls_by actor (take glance.calls history)) ≡ asked

-- the counts after a glance
pub record IsStanding (history : List Entry) (actor : ℕ) (standing : Standing) : Type 0 where
  pub within : standing.calls ≤ length history
  pub made : standing.made ≡ length (calls_by actor (take standing.calls history))

-- behind some glances that are all of the actor's, these are left
pub record HasOwn (history : List Entry) (lines : List Line) (actor : ℕ) (glances more : List Seen) : Type 0 where
  pub own : List Seen
  pub split : glances ≡ own ++ more
  pub legal : AreLegalGlances history lines actor own

-- what the actor does in a line
abbrev pub IsAct : ℕ → Line → Act → Type 0
IsAct actor line act.Ask = (length (asked actor line) ≡ 1) × (looks actor line ≡ false)
IsAct actor line act.Look = (asked actor line ≡ []) × (line ≡ look_of actor)
IsAct actor line act.None = (asked actor line ≡ []) × (looks actor line ≡ false)
