-- How high the media level may stand at a moment: one number for each start, which is an entry before which it may have been full.
use Rattle.std.specs.Prelude.{◌≡◌, ◌⊎◌, ℕ, ℤ, pos, ◌+◌, ◌-◌, ◌*◌, ◌-ℤ◌, ◌≤ℤ◌, List, [], ◌∷◌, ◌++◌, All, Contains}
use Rattle.pace_budget.specs.Level.{bits, IsAtMost}
use Rattle.send_core.specs.declared.call.Entry.{Entry}
use Rattle.send_core.specs.History.{now, sent}
use Rattle.send_core.specs.Levels.{rate, window}
use Rattle.send_laws.specs.Spans.{all_spent, integral}

-- what the rates in force come to, from the last of the entries before to a moment behind the rest
abbrev pub came_in : List Entry → List Entry → ℕ → ℕ
came_in before rest moment = integral before rest + rate (before ++ rest) * (moment - now (before ++ rest))

-- less the media and the probes that these entries sent
abbrev pub less_spent : ℕ → List Entry → ℤ
less_spent gain entries = pos gain -ℤ bits (all_spent (sent entries))

-- empty at first: all that came in, less all media and probes
abbrev pub from_nothing : List Entry → ℕ → ℤ
from_nothing history moment = less_spent (came_in [] history moment) history

-- full at an entry: the rate in force before it times the window, and what came in from it on, less what it and those behind it spent
abbrev pub full_at : List Entry → Entry → List Entry → ℕ → ℤ
full_at before e rest moment = less_spent (rate before * window before + came_in (before ++ e ∷ []) rest moment) (e ∷ rest)

-- so for each of the rest, and full when the call is served at the moment
abbrev pub fills : List Entry → List Entry → ℕ → List ℤ
fills before [] moment = pos (rate before * window before) ∷ []
fills before (e ∷ rest) moment = full_at before e rest moment ∷ fills (before ++ e ∷ []) rest moment

-- the least of all these numbers
pub record IsLeastFill (level : ℤ) (history : List Entry) (moment : ℕ) : Type 0 where
  pub at_most_from_nothing : level ≤ℤ from_nothing history moment
  pub at_most_each : All (IsAtMost level) (fills [] history moment)
  pub reached : (level ≡ from_nothing history moment) ⊎ Contains (fills [] history moment) level
