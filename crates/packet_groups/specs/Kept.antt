-- What is kept of the groups, and the credits that it stands for.
use Rattle.std.specs.Prelude.{◌≡◌, ℕ, neg_ℤ, ◌≤◌, ◌≤ℤ◌, nat_le, nat_lt, if◌then◌else◌, List, [], ◌∷◌, Option, Some, None, option_map}
use Rattle.std.specs.Option.{ForSome}
use Rattle.gcc_units.specs.declared.shared_types.Credit.{Credit}
use Rattle.gcc_units.specs.declared.shared_types.Sample.{Sample}
use Rattle.gcc_units.specs.declared.limits.TheConstants.{GREATEST_MOMENT, GREATEST_ARRIVAL, JOURNAL_ARRIVAL}
use Rattle.packet_groups.specs.declared.step.Point.{Point}
use Rattle.packet_groups.specs.declared.step.Group.{Group}
use Rattle.packet_groups.specs.declared.step.State.{State}
use Rattle.packet_groups.specs.Groups.{Run, end_of, last_of, summary, joins, difference, division, grouped, is_behind}

-- ---- ranges

pub record IsPointWithin (p : Point) : Type 0 where
  pub sent_at : p.sent_at ≤ GREATEST_MOMENT
  pub low : neg_ℤ GREATEST_ARRIVAL ≤ℤ p.arrival
  pub high : p.arrival ≤ℤ GREATEST_ARRIVAL

-- the credit's moment and arrival are in their ranges
abbrev pub IsWithin : Credit → Type 0
IsWithin c = IsPointWithin (end_of c)

-- the credit's moment is in its range, and its arrival in that of a journal's credits
pub record IsOfJournal (c : Credit) : Type 0 where
  pub sent_at : c.sent_at ≤ GREATEST_MOMENT
  pub low : neg_ℤ JOURNAL_ARRIVAL ≤ℤ c.arrival
  pub high : c.arrival ≤ℤ JOURNAL_ARRIVAL

-- the group's first packet was sent no later than its last
pub record IsGroupKept (g : Group) : Type 0 where
  pub ordered : g.first ≤ g.last.sent_at
  pub last : IsPointWithin g.last

-- the end of the group before lies no later than the group's last packet
pub record IsBefore (current : Option Group) (p : Point) : Type 0 where
  pub within : IsPointWithin p
  pub ordered : ForSome current (λ g. p.sent_at ≤ g.last.sent_at)

pub record IsKept (now : State) : Type 0 where
  pub current : ForSome now.current IsGroupKept
  pub before : ForSome now.before (IsBefore now.current)

-- ---- one step

-- the group with a credit that joins it, and the group that a credit begins
abbrev pub with : Group → Credit → Group
with g c = record { first = g.first; last = end_of c }

abbrev pub begun : Credit → Group
begun c = record { first = c.sent_at; last = end_of c }

-- the state after a credit, and the sample that it gives
abbrev pub after_in : Option Group → Option Point → Credit → State × Option Sample
after_in None before c = (record { current = Some (begun c); before = None }, None)
after_in (Some g) before c =
    if nat_lt c.sent_at g.last.sent_at then (record { current = Some g; before = before }, None)
    else (if joins g c then (record { current = Some (with g c); before = before }, None)
    else (record { current = Some (begun c); before = Some g.last }, option_map (λ b. difference b g.last) before))

abbrev pub after : State → Credit → State × Option Sample
after now c = after_in now.current now.before c

-- ---- what it stands for

-- the last run, and the end of the one before it
abbrev pub state_of : List Run → State
state_of [] = record { current = None; before = None }
state_of (r ∷ []) = record { current = Some (summary r); before = None }
state_of (r ∷ s ∷ []) = record { current = Some (summary s); before = Some (end_of (last_of r)) }
state_of (r ∷ s ∷ t ∷ runs) = state_of (s ∷ t ∷ runs)

-- the last grouped departure
abbrev pub moment_of : Option Group → ℕ
moment_of None = 0
moment_of (Some g) = g.last.sent_at

-- The groups were given these credits.
pub record StandsFor (now : State) (credits : List Credit) : Type 0 where
  pub is : now ≡ state_of (division (grouped credits))
  pub latest : (moment : ℕ) → is_behind credits moment ≡ nat_le (moment_of now.current) moment

-- the sample, where there is one
abbrev pub listed : Option Sample → List Sample
listed None = []
listed (Some s) = s ∷ []
