-- Where in a history the accepted packets stand.
use Rattle.std.specs.Prelude.{◌≡◌, ℕ, ◌+◌, List, [], ◌∷◌, ◌++◌, map, min}
use Rattle.gcc_units.specs.Listed.{Listed}
use Rattle.send_core.specs.declared.call.Entry.{Entry}
use Rattle.send_core.specs.declared.journal.Journal.TheInside.{Inside}
use Rattle.pacer.specs.declared.pacing.Tally.{Tally}
use Rattle.send_core.specs.History.{AcceptedPacket, accepted_by}
use Rattle.send_core.specs.Estimates.{target}
use Rattle.send_core.specs.Levels.{tally_of}

-- for each accepted packet the number of its entry
abbrev pub places_from : ℕ → List Entry → List ℕ
places_from n [] = []
places_from n (e ∷ es) = map (λ (p : AcceptedPacket). n) (accepted_by e.call e.reply) ++ places_from (n + 1) es

-- for each beginning of the entries, what the time after it counts at
abbrev pub tallies_from : List Entry → List Entry → List Tally
tallies_from before [] = tally_of before ∷ []
tallies_from before (e ∷ es) = tally_of before ∷ tallies_from (before ++ e ∷ []) es

-- the entries, and room for one more of them, of the places and of the tallies
abbrev pub entries_of : Inside → Listed Entry
entries_of j = record { items = j.entries.items; spare = min j.entries.spare (min j.places.spare j.tallies.spare) }

pub record IsKept (j : Inside) : Type 0 where
  pub places : j.places.items ≡ places_from 0 j.entries.items
  pub tallies : j.tallies.items ≡ tallies_from [] j.entries.items
  pub goal : j.target ≡ target j.entries.items
