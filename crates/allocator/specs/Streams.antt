-- Streams: which are sound, and the streams of a set after a change.
use Rattle.std.specs.Prelude.{ℕ, ◌<◌, ◌≤◌, ◌==◌, ◌&&◌, nat_lt, nat_le, not, Bool, true, if◌then◌else◌, Option, None, List, [], ◌∷◌, ◌++◌, length, map, filter, find, fold, All, AllPairs}
use Rattle.std.specs.List.{list_any, list_all}
use Rattle.gcc_units.specs.declared.limits.TheConstants.{GREATEST_RATE, MOST_STREAMS}
use Rattle.allocator.specs.declared.stream.Stream.{Stream}
use Rattle.allocator.specs.declared.stream.TheConstants.{LEAST_WEIGHT, GREATEST_WEIGHT}

-- what a stream may be: its minimum is at most its maximum, and maximum and weight are in their ranges
pub record IsSound (s : Stream) : Type 0 where
  pub order : s.min ≤ s.max
  pub rate : s.max ≤ GREATEST_RATE
  pub least : LEAST_WEIGHT ≤ s.weight
  pub greatest : s.weight ≤ GREATEST_WEIGHT

abbrev pub is_sound : Stream → Bool
is_sound s = nat_le s.min s.max && (nat_le s.max GREATEST_RATE && (nat_le LEAST_WEIGHT s.weight && nat_le s.weight GREATEST_WEIGHT))

abbrev pub are_sound : List Stream → Bool
are_sound streams = list_all is_sound streams

abbrev pub id_of : Stream → ℕ
id_of s = s.id

-- an id is among the streams'
abbrev pub has_id : List Stream → ℕ → Bool
has_id streams id = list_any (λ (s : Stream). s.id == id) streams

-- a number is in the list
abbrev pub has_number : List ℕ → ℕ → Bool
has_number ids id = list_any (λ x. x == id) ids

-- no number stands twice
abbrev pub all_differ : List ℕ → Bool
all_differ [] = true
all_differ (x ∷ xs) = not (has_number xs x) && all_differ xs

-- no id stands twice among the streams that are set, twice among those that are removed, or in both
abbrev pub ids_differ : List Stream → List ℕ → Bool
ids_differ set removed = all_differ (map id_of set ++ removed)

-- the stream with an id, if there is one
abbrev pub found : List Stream → ℕ → Option Stream
found streams id = find (λ (s : Stream). s.id == id) streams

-- What an id names after a change: what the change sets under it; nothing, where it is removed; else what it named before.
abbrev pub found_after : List Stream → List Stream → List ℕ → ℕ → Option Stream
found_after streams set removed id =
    if has_id set id then found set id
    else (if has_number removed id then None else found streams id)

-- into its place: before the first that it goes before
abbrev pub placed : (Stream → Stream → Bool) → List Stream → Stream → List Stream
placed goes_before [] s = s ∷ []
placed goes_before (t ∷ ts) s = if goes_before s t then s ∷ t ∷ ts else t ∷ placed goes_before ts s

abbrev pub has_lesser_id : Stream → Stream → Bool
has_lesser_id s t = nat_lt s.id t.id

-- neither set nor removed by a change
abbrev pub stays : List Stream → List ℕ → Stream → Bool
stays set removed s = not (has_id set s.id) && not (has_number removed s.id)

-- The streams after a change, in rising order of id: those that are neither set nor removed, and those that are set.
unfoldable pub changed : List Stream → List Stream → List ℕ → List Stream
changed streams set removed = fold (placed has_lesser_id) (filter (stays set removed) streams) set

abbrev pub HasLesserId : Stream → Stream → Type 0
HasLesserId s t = s.id < t.id

-- the streams of a set: not too many, each sound, in rising order of id
pub record IsStreamSet (streams : List Stream) : Type 0 where
  pub few : length streams ≤ MOST_STREAMS
  pub sound : All IsSound streams
  pub rising : AllPairs HasLesserId streams
