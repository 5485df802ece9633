-- The packets that wait, in the order of arrival, and which of them goes next: the one with the least
-- pair of rank and index, so audio before retransmissions before video and FEC, and within a rank the
-- one that came first.
use Rattle.std.specs.Prelude.{◌≡◌, ◌⊎◌, ℕ, ◌<◌, ◌≤◌, ◌==◌, ◌||◌, ◌&&◌, nat_lt, not, Bool, if◌then◌else◌, Option, None, Some, List, ◌∷◌, ◌++◌, All, Contains, filter, fold}
use Rattle.gcc_units.specs.Priority.{rank_of}
use Rattle.pace_queues.specs.declared.ticket.Ticket.{Ticket}

-- a lesser rank, or the same rank and a lesser index
abbrev pub goes_before : Ticket → Ticket → Bool
goes_before a b = nat_lt (rank_of a.class) (rank_of b.class) || ((rank_of a.class == rank_of b.class) && nat_lt a.index b.index)

-- the better of the best so far and one more
abbrev pub better : Option Ticket → Ticket → Option Ticket
better None t = Some t
better (Some best) t = if goes_before t best then Some t else Some best

-- the one that goes next, if one waits
abbrev pub next : List Ticket → Option Ticket
next waiting = fold better None waiting

-- of two tickets the one that came first, where there is one
abbrev pub earlier : Option Ticket → Option Ticket → Option Ticket
earlier None b = b
earlier (Some a) None = Some a
earlier (Some a) (Some b) = if nat_lt b.index a.index then Some b else Some a

-- those with another index
abbrev pub without : ℕ → List Ticket → List Ticket
without index waiting = filter (λ (t : Ticket). not (t.index == index)) waiting

abbrev pub without_one : Option Ticket → List Ticket → List Ticket
without_one None waiting = waiting
without_one (Some t) waiting = without t.index waiting

-- what waits after the next one has gone
abbrev pub rest : List Ticket → List Ticket
rest waiting = without_one (next waiting) waiting

-- its pair of rank and index is at most the other's
abbrev pub GoesNoLater : Ticket → Ticket → Type 0
GoesNoLater a b = (rank_of a.class < rank_of b.class) ⊎ ((rank_of a.class ≡ rank_of b.class) × (a.index ≤ b.index))

-- it waits, and its pair of rank and index is the least
pub record IsLeast (t : Ticket) (waiting : List Ticket) : Type 0 where
  pub waits : Contains waiting t
  pub least : All (GoesNoLater t) waiting

-- the second list is the first without this one, and all else is in its place
pub record LosesJust (t : Ticket) (before after : List Ticket) : Type 0 where
  pub front : List Ticket
  pub back : List Ticket
  pub was : before ≡ front ++ t ∷ back
  pub now : after ≡ front ++ back

abbrev pub HasIndexBelow : ℕ → Ticket → Type 0
HasIndexBelow index t = t.index < index

abbrev pub CameBefore : Ticket → Ticket → Type 0
CameBefore a b = a.index < b.index

abbrev pub size_of : Ticket → ℕ
size_of t = t.size

abbrev pub accepted_at_of : Ticket → ℕ
accepted_at_of t = t.accepted_at
