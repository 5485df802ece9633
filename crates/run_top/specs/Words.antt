-- The words that are accepted, and what they ask for.
use Rattle.std.specs.Prelude.{◌≢◌, ℕ, ◌≤◌, ◌==◌, ◌&&◌, nat_le, nat_eq, if◌then◌else◌, Bool, Option, None, Some, zero, suc, List, [], ◌∷◌, take, drop, length, codes}
use Rattle.std.specs.Str.{bytes_eq}
use Rattle.std.specs.Cmp.Lexicographic.{pointwise}
use Rattle.gcc_units.specs.Listed.{Listed}
use Rattle.gcc_units.specs.declared.limits.TheConstants.{MOST_ACTORS, MOST_LINES, LEAST_RATE, GREATEST_RATE}
use Rattle.call_trace.specs.Fields.{number_of}
use Rattle.link_path.specs.declared.TheConstants.{LEAST_QUEUE, GREATEST_QUEUE, LONGEST_DELAY}
use Rattle.link_path.specs.declared.link.LinkSettings.{LinkSettings}
use Rattle.link_path.specs.KeptLink.{IsLink}
use Rattle.link_loop.specs.declared.TheConstants.{MOST_MILLIS}
use Rattle.nack_rtx.specs.declared.resender.RtxSettings.{RtxSettings}
use Rattle.resending.specs.declared.serving.TheConstants.{MOST_REPEATS}
use Rattle.run_top.specs.declared.words.TheConstants.{GREATEST_SSRC, GREATEST_PAYLOAD}
use Rattle.run_top.specs.declared.words.Command.{Command}
use Rattle.run_top.specs.declared.words.Command.TheVariants as command
use Rattle.run_top.specs.declared.options.Name.{Name}
use Rattle.run_top.specs.declared.options.Name.TheVariants as name
use Rattle.run_top.specs.declared.options.Given.{Given}

infixl 10 ◌>>=◌
abbrev pub ◌>>=◌ : {A B : Type 0} → Option A → (A → Option B) → Option B
None >>= f = None
(Some x) >>= f = f x

abbrev pub is_text : Listed ℕ → List ℕ → Bool
is_text word bytes = bytes_eq word.items bytes

-- ---- options

-- the names of all options
abbrev pub names : List Name
names =
    name.Seed ∷ name.Calls ∷ name.Actors ∷ name.Rate ∷ name.Queue ∷ name.Delay ∷ name.Millis
    ∷ name.Media ∷ name.Rtx ∷ name.Payload ∷ name.Repeats ∷ []

abbrev pub name_text : Name → List ℕ
name_text name.Seed = codes "--seed"
name_text name.Calls = codes "--calls"
name_text name.Actors = codes "--actors"
name_text name.Rate = codes "--rate"
name_text name.Queue = codes "--queue"
name_text name.Delay = codes "--delay"
name_text name.Millis = codes "--millis"
name_text name.Media = codes "--media"
name_text name.Rtx = codes "--rtx"
name_text name.Payload = codes "--payload"
name_text name.Repeats = codes "--repeats"

abbrev pub same_name : Name → Name → Bool
same_name a b = bytes_eq (name_text a) (name_text b)

-- an option, and the words behind it
abbrev pub Taken : Type 0
Taken = Given × List (Listed ℕ)

abbrev pub given : Name → ℕ → Given
given name number = record { name = name; number = number }

-- what stands behind this beginning, where the bytes begin so
abbrev pub stripped : List ℕ → List ℕ → Option (List ℕ)
stripped front bytes = if pointwise nat_eq (take (length front) bytes) front then Some (drop (length front) bytes) else None

-- the number is the next word
abbrev pub in_two : Name → List (Listed ℕ) → Option Taken
in_two name [] = None
in_two name (word ∷ words) = do
  number ← number_of word.items
  Some (given name number, words)

-- the number stands behind the name and a `=`
abbrev pub in_one : Name → Listed ℕ → List (Listed ℕ) → Option Taken
in_one name word words = do
  text ← stripped (name_text name) word.items
  digits ← stripped (codes "=") text
  number ← number_of digits
  Some (given name number, words)

-- the option of this name that words begin with: `--seed 7` or `--seed=7`
abbrev pub option_of : Name → List (Listed ℕ) → Option Taken
option_of name [] = None
option_of name (word ∷ words) = if is_text word (name_text name) then in_two name words else in_one name word words

abbrev pub or_else : {A : Type 0} → Option A → Option A → Option A
or_else None other = other
or_else (Some x) other = Some x

-- the option that words begin with, where its name is one of these
abbrev pub option_among : List Name → List (Listed ℕ) → Option Taken
option_among [] words = None
option_among (name ∷ names) words = or_else (option_of name words) (option_among names words)

-- the option that words begin with
unfoldable pub option_at : List (Listed ℕ) → Option Taken
option_at words = option_among names words

-- so many options, and nothing behind them
abbrev pub options_at : ℕ → List (Listed ℕ) → Option (List Given)
options_at zero [] = Some []
options_at zero (word ∷ words) = None
options_at (suc n) words = do
  taken ← option_at words
  others ← options_at n taken.1
  Some (taken.0 ∷ others)

-- the number of the option of this name
abbrev pub number_for : Name → List Given → Option ℕ
number_for name [] = None
number_for name (first ∷ others) = if same_name first.name name then Some first.number else number_for name others

-- a number from the least to the most
abbrev pub within : ℕ → ℕ → ℕ → Option ℕ
within least most n = if nat_le least n && nat_le n most then Some n else None

-- ---- commands

abbrev pub alone : Command → List (Listed ℕ) → Option Command
alone command [] = Some command
alone command (word ∷ words) = None

-- the options of `make`, each once
unfoldable pub make_at : List (Listed ℕ) → Option Command
make_at words = do
  options ← options_at 3 words
  seed ← number_for name.Seed options
  calls ← number_for name.Calls options >>= within 1 MOST_LINES
  actors ← number_for name.Actors options >>= within 1 MOST_ACTORS
  Some (command.Make seed calls actors)

-- the options of `demo`, each once
unfoldable pub demo_at : List (Listed ℕ) → Option Command
demo_at words = do
  options ← options_at 2 words
  seed ← number_for name.Seed options
  calls ← number_for name.Calls options >>= within 1 MOST_LINES
  Some (command.Demo seed calls)

abbrev pub link_settings : ℕ → ℕ → ℕ → LinkSettings
link_settings rate queue delay = record { rate = rate; queue = queue; delay = delay }

-- the settings of a link among options
abbrev pub settings_in : List Given → Option LinkSettings
settings_in options = do
  rate ← number_for name.Rate options >>= within LEAST_RATE GREATEST_RATE
  queue ← number_for name.Queue options >>= within LEAST_QUEUE GREATEST_QUEUE
  delay ← number_for name.Delay options >>= within 0 LONGEST_DELAY
  Some (link_settings rate queue delay)

-- the options of `loop`, each once
unfoldable pub loop_at : List (Listed ℕ) → Option Command
loop_at words = do
  options ← options_at 4 words
  settings ← settings_in options
  millis ← number_for name.Millis options >>= within 1 MOST_MILLIS
  Some (command.Loop settings millis)

abbrev pub rtx_settings : ℕ → ℕ → ℕ → ℕ → RtxSettings
rtx_settings media rtx payload repeats = record { media = media; rtx = rtx; payload = payload; repeats = repeats }

-- packets that are sent again have an SSRC of their own
abbrev pub apart : RtxSettings → Option RtxSettings
apart s = if s.media == s.rtx then None else Some s

-- the settings of resends among options
unfoldable pub rtx_in : List Given → Option RtxSettings
rtx_in options = do
  media ← number_for name.Media options >>= within 0 GREATEST_SSRC
  rtx ← number_for name.Rtx options >>= within 0 GREATEST_SSRC
  payload ← number_for name.Payload options >>= within 0 GREATEST_PAYLOAD
  repeats ← number_for name.Repeats options >>= within 1 MOST_REPEATS
  apart (rtx_settings media rtx payload repeats)

-- the options of `resend`, each once
unfoldable pub resend_at : List (Listed ℕ) → Option Command
resend_at words = do
  options ← options_at 4 words
  settings ← rtx_in options
  Some (command.Resend settings)

-- what words ask for, if they are accepted
unfoldable pub command_of : List (Listed ℕ) → Option Command
command_of [] = None
command_of (word ∷ words) =
    if is_text word (codes "replay") then alone command.Replay words
    else if is_text word (codes "race") then alone command.Race words
    else if is_text word (codes "check") then alone command.Check words
    else if is_text word (codes "compare") then alone command.Compare words
    else if is_text word (codes "make") then make_at words
    else if is_text word (codes "demo") then demo_at words
    else if is_text word (codes "loop") then loop_at words
    else if is_text word (codes "resend") then resend_at words
    else None

-- a number from the least to the most
abbrev pub IsFromTo : ℕ → ℕ → ℕ → Type 0
IsFromTo least most n = (least ≤ n) × (n ≤ most)

-- settings of resends: SSRCs of 32 bits, one for the media and another for what is sent again, a payload type of 7 bits, and how often a
-- packet is sent again
pub record IsAllowed (s : RtxSettings) : Type 0 where
  pub media : s.media ≤ GREATEST_SSRC
  pub rtx : s.rtx ≤ GREATEST_SSRC
  pub apart : s.media ≢ s.rtx
  pub payload : s.payload ≤ GREATEST_PAYLOAD
  pub some : 1 ≤ s.repeats
  pub few : s.repeats ≤ MOST_REPEATS

-- the numbers of a command are within the limits
abbrev pub IsWithin : Command → Type 0
IsWithin command.Replay = Unit {0}
IsWithin command.Race = Unit {0}
IsWithin command.Check = Unit {0}
IsWithin command.Compare = Unit {0}
IsWithin (command.Make seed calls actors) = IsFromTo 1 MOST_LINES calls × IsFromTo 1 MOST_ACTORS actors
IsWithin (command.Demo seed calls) = IsFromTo 1 MOST_LINES calls
IsWithin (command.Loop settings millis) = IsLink settings × IsFromTo 1 MOST_MILLIS millis
IsWithin (command.Resend settings) = IsAllowed settings

-- a race waits, and so do calls between which lost packets are sent again
abbrev pub unless_race : Command → Option Command
unless_race command.Race = None
unless_race (command.Resend settings) = None
unless_race command.Replay = Some command.Replay
unless_race command.Check = Some command.Check
unless_race command.Compare = Some command.Compare
unless_race (command.Make seed calls actors) = Some (command.Make seed calls actors)
unless_race (command.Demo seed calls) = Some (command.Demo seed calls)
unless_race (command.Loop settings millis) = Some (command.Loop settings millis)

-- the command that is served without waiting
abbrev pub plain_command_of : List (Listed ℕ) → Option Command
plain_command_of words = command_of words >>= unless_race
