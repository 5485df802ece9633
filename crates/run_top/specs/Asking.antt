-- Which words ask for which command: a relation of the words' bytes and the command.
use Rattle.std.specs.Prelude.{◌≡◌, ◌⊎◌, ℕ, ◌<◌, ◌^◌, List, [], ◌∷◌, ◌++◌, map, length, slice_index, codes}
use Rattle.std.specs.Str.Parse.{IsNumeral, digits_value}
use Rattle.gcc_units.specs.Listed.{Listed}
use Rattle.gcc_units.specs.declared.limits.TheConstants.{MOST_ACTORS, MOST_LINES}
use Rattle.link_path.specs.KeptLink.{IsLink}
use Rattle.link_loop.specs.declared.TheConstants.{MOST_MILLIS}
use Rattle.run_top.specs.declared.words.Command.{Command}
use Rattle.run_top.specs.declared.words.Command.TheVariants as command
use Rattle.run_top.specs.declared.options.Name.TheVariants as name
use Rattle.run_top.specs.declared.options.Given.{Given}
use Rattle.run_top.specs.Words.{name_text, given, IsFromTo, IsAllowed}

-- a number in decimal: digits without a leading zero, and their value, which is below 2^64
pub record IsNumberText (text : List ℕ) (n : ℕ) : Type 0 where
  pub digits : IsNumeral 10 text
  pub no_leading_zero : slice_index text 0 ≡ 48 → length text ≡ 1
  pub value : digits_value 10 text ≡ n
  pub fits : n < 2 ^ 64

-- the bytes of each word
abbrev pub texts : List (Listed ℕ) → List (List ℕ)
texts words = map (λ (word : Listed ℕ). word.items) words

-- the words of an option: its name and its number, as two words, or as one with a `=` between them
abbrev pub IsOption : List (List ℕ) → Given → Type 0
IsOption words option =
    (number : List ℕ) × IsNumberText number option.number
    × ((words ≡ name_text option.name ∷ number ∷ []) ⊎ (words ≡ (name_text option.name ++ codes "=" ++ number) ∷ []))

-- the words of options, one behind the other
abbrev pub AreOptions : List (List ℕ) → List Given → Type 0
AreOptions words [] = words ≡ []
AreOptions words (option ∷ options) =
    (first : List (List ℕ)) × (rest : List (List ℕ)) × (words ≡ first ++ rest) × IsOption first option × AreOptions rest options

-- these options, each once, in any order: the first stands somewhere, and around it the others, in any order
abbrev pub AreInAnyOrder : List Given → List Given → Type 0
AreInAnyOrder [] options = options ≡ []
AreInAnyOrder (one ∷ others) options =
    (front : List Given) × (back : List Given) × (options ≡ front ++ one ∷ back) × AreInAnyOrder others (front ++ back)

-- the words of these options, each once, in any order
abbrev pub HaveOptions : List (List ℕ) → List Given → Type 0
HaveOptions words wanted = (options : List Given) × AreOptions words options × AreInAnyOrder wanted options

-- the words that ask for a command
abbrev pub Asks : List (List ℕ) → Command → Type 0
Asks words command.Replay = words ≡ codes "replay" ∷ []
Asks words command.Race = words ≡ codes "race" ∷ []
Asks words command.Check = words ≡ codes "check" ∷ []
Asks words command.Compare = words ≡ codes "compare" ∷ []
Asks words (command.Make seed calls actors) =
    (rest : List (List ℕ)) × (words ≡ codes "make" ∷ rest)
    × HaveOptions rest (given name.Seed seed ∷ given name.Calls calls ∷ given name.Actors actors ∷ [])
    × IsFromTo 1 MOST_LINES calls × IsFromTo 1 MOST_ACTORS actors
Asks words (command.Demo seed calls) =
    (rest : List (List ℕ)) × (words ≡ codes "demo" ∷ rest)
    × HaveOptions rest (given name.Seed seed ∷ given name.Calls calls ∷ []) × IsFromTo 1 MOST_LINES calls
Asks words (command.Loop settings millis) =
    (rest : List (List ℕ)) × (words ≡ codes "loop" ∷ rest)
    × HaveOptions rest (given name.Rate settings.rate ∷ given name.Queue settings.queue ∷ given name.Delay settings.delay ∷ given name.Millis millis ∷ [])
    × IsLink settings × IsFromTo 1 MOST_MILLIS millis
Asks words (command.Resend settings) =
    (rest : List (List ℕ)) × (words ≡ codes "resend" ∷ rest)
    × HaveOptions rest (given name.Media settings.media ∷ given name.Rtx settings.rtx ∷ given name.Payload settings.payload ∷ given name.Repeats settings.repeats ∷ [])
    × IsAllowed settings
