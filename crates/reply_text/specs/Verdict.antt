-- The verdict on a text: that it is legal, or the first place where it is not.
use Rattle.std.specs.Prelude.{◌≡◌, ◌≢◌, ℕ, zero, suc, ◌<◌, List, [], ◌∷◌, ◌++◌, length, codes}
use Rattle.std.specs.List.{flat_map}
use Rattle.send_core.specs.declared.call.Call.{Call}
use Rattle.send_core.specs.declared.call.Entry.{Entry}
use Rattle.send_core.specs.Reply.{reply}
use Rattle.call_trace.specs.declared.trace.Line.{Line}
use Rattle.call_trace.specs.Merge.{call_in, calls_of, calls_by}
use Rattle.reply_text.specs.declared.seen.Seen.{Seen}
use Rattle.reply_text.specs.declared.check.Verdict.{Verdict}
use Rattle.reply_text.specs.declared.check.Verdict.TheVariants.{Legal, Differs}
use Rattle.reply_text.specs.Text.{line_of, glance_lines, tail_line}
use Rattle.reply_text.specs.Legal.{AreGlancesOf}

-- all calls of the lines
abbrev pub calls : List Line → List Call
calls lines = flat_map (λ (line : Line). call_in line.action) lines

-- behind the calls that the actor made, its lines go on with this one
abbrev pub IsNext : List Line → List Entry → ℕ → Call → Type 0
IsNext lines history actor call = (later : List Call) × (calls_of actor lines ≡ calls_by actor history ++ call ∷ later)

-- what is left of the text begins with the line of this entry: of an actor's next call, under its number, served after the entries before
pub record IsStep (lines : List Line) (actors : ℕ) (history : List Entry) (rest : List ℕ) (e : Entry) (more : List ℕ) : Type 0 where
  pub actor : e.caller < actors
  pub next : IsNext lines history e.caller e.call
  pub served : e.reply ≡ reply history e.call
  pub printed : rest ≡ line_of e ++ more

-- the next line is a good one
abbrev pub HasGoodLine : List Line → ℕ → List Entry → List ℕ → Type 0
HasGoodLine lines actors history rest = (e : Entry) × (more : List ℕ) × IsStep lines actors history rest e more

abbrev pub title : List ℕ
title = codes "gcc-history 1\n"

-- behind the title so many good lines stand, those of these entries, and then this rest
abbrev pub Begins : List Line → ℕ → List ℕ → ℕ → List Entry → List ℕ → Type 0
Begins lines actors text zero history rest = (history ≡ []) × (text ≡ title ++ rest)
Begins lines actors text (suc k) history rest =
    (before : List Entry) × (behind : List ℕ) × (e : Entry)
    × Begins lines actors text k before behind × IsStep lines actors before behind e rest × (history ≡ before ++ e ∷ [])

-- legal glances and the tail of the history, and nothing behind it
abbrev pub IsEnding : List Line → ℕ → List Entry → List ℕ → Type 0
IsEnding lines actors history rest =
    (glances : List Seen) × AreGlancesOf history lines actors glances × (rest ≡ glance_lines [] glances ++ tail_line history)

-- the first of these rules that applies tells the place
pub data DiffersAt (lines : List Line) (actors : ℕ) (text : List ℕ) (k : ℕ) : Type 0 where
  -- the first line is wrong
  first : k ≡ 0 → ((rest : List ℕ) → text ≢ title ++ rest) → DiffersAt lines actors text k
  -- a line behind it, by its number below that of the calls, is bad, and each before it is good
  line : (history : List Entry) (rest : List ℕ) → k < length (calls lines) → Begins lines actors text k history rest
      → ¬ HasGoodLine lines actors history rest → DiffersAt lines actors text k
  -- glances or tail are wrong behind a good line for each call
  ending : (history : List Entry) (rest : List ℕ) → k ≡ length (calls lines) → Begins lines actors text k history rest
      → ¬ IsEnding lines actors history rest → DiffersAt lines actors text k

-- what holds of the place, where there is one
abbrev pub IfDiffers : Verdict → (ℕ → Type 0) → Type 0
IfDiffers Legal P = Unit {0}
IfDiffers (Differs k) P = P k
