-- The division into groups is the one in which a credit stays with those before it exactly where it joins them.
use Rattle.std.specs.Prelude.{◌≡◌, ℕ, ◌≤◌, true, false, List, [], ◌∷◌, length, sum_by, All}
use Rattle.std.specs.List.{flat_map}
use Rattle.gcc_units.specs.declared.shared_types.Credit.{Credit}
use Rattle.gcc_units.specs.declared.shared_types.Sample.{Sample}
use Rattle.packet_groups.specs.Groups.{Run, joins, summary, alone, longer, division, samples}

-- each of these credits joins the run with those before it
abbrev pub StaysFrom : Run → List Credit → Type 0
StaysFrom r [] = Unit {0}
StaysFrom r (c ∷ credits) = (joins (summary r) c ≡ true) × StaysFrom (longer r c) credits

-- each credit of the run joins those before it
abbrev pub IsGroup : Run → Type 0
IsGroup r = StaysFrom (alone r.first) r.more

-- each run is a group, and no run begins with a credit that joins the run before
abbrev pub IsDivision : List Run → Type 0
IsDivision [] = Unit {0}
IsDivision (r ∷ []) = IsGroup r
IsDivision (r ∷ s ∷ runs) = IsGroup r × (joins (summary r) s.first ≡ false) × IsDivision (s ∷ runs)

abbrev pub credits_of : Run → List Credit
credits_of r = r.first ∷ r.more

-- the runs, one behind the other, are these credits, and they are divided so
pub record Divides (runs : List Run) (credits : List Credit) : Type 0 where
  pub divided : IsDivision runs
  pub whole : flat_map credits_of runs ≡ credits

-- the law: the division of credits divides them, and no other does
pub record IsTheOne (credits : List Credit) : Type 0 where
  pub divides : Divides (division credits) credits
  pub only : (runs : List Run) → Divides runs credits → runs ≡ division credits

-- all send gaps together
abbrev pub total_gap : List Sample → ℕ
total_gap samples = sum_by (λ (s : Sample). s.send_gap) samples

-- there are no more samples than credits
abbrev pub SamplesAreFew : Type 0
SamplesAreFew = (credits : List Credit) → length (samples credits) ≤ length credits

-- the send gaps sum to no more than the last departure
abbrev pub GapsAreShort : Type 0
GapsAreShort = (credits : List Credit) (moment : ℕ) → All (λ (c : Credit). c.sent_at ≤ moment) credits → total_gap (samples credits) ≤ moment
