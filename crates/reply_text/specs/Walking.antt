-- How far the lines of a text were served.
use Rattle.std.specs.Prelude.{◌≡◌, ℕ, ◌≤◌, ◌<◌, List, [], ◌∷◌, ◌++◌, length, take, slice_index}
use Rattle.gcc_units.specs.declared.limits.TheConstants.{MOST_ACTORS}
use Rattle.send_core.specs.declared.call.Entry.{Entry}
use Rattle.call_trace.specs.declared.trace.Line.{Line}
use Rattle.call_trace.specs.Merge.{calls_of, calls_by}
use Rattle.reply_text.specs.declared.serving.Walked.{Walked}
use Rattle.reply_text.specs.declared.serving.Walked.TheVariants.{Bad, All}
use Rattle.reply_text.specs.Verdict.{calls, IsStep, Begins, DiffersAt}
use Rattle.reply_text.specs.Looking.{AreTargets}

-- the actor's calls in the lines before its cursor are those that it made
pub record IsPlaced (lines : List Line) (history : List Entry) (actor cursor : ℕ) : Type 0 where
  pub within : cursor ≤ length lines
  pub made : calls_of actor (take cursor lines) ≡ calls_by actor history

pub record ArePlaced (lines : List Line) (actors : ℕ) (history : List Entry) (cursors : List ℕ) : Type 0 where
  pub room : length cursors ≡ MOST_ACTORS
  pub each : (actor : ℕ) → actor < actors → IsPlaced lines history actor (slice_index cursors actor)

-- the next line was served
pub record IsServed (lines : List Line) (actors : ℕ) (before after : List Entry) (rest more : List ℕ) : Type 0 where
  pub served : Entry
  pub step : IsStep lines actors before rest served more
  pub grown : after ≡ before ++ served ∷ []

abbrev pub IsWalked : List Line → ℕ → List ℕ → Walked → Type 0
IsWalked lines actors text (Bad k) = DiffersAt lines actors text k
IsWalked lines actors text (All served rest) =
    Begins lines actors text (length (calls lines)) served.sender rest.now × AreTargets served.sender served.targets.items
