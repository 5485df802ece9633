-- How the waiting packets are kept: a ring for each rank, and two sums over all.
use Rattle.std.specs.Prelude.{◌≡◌, ℕ, ◌<◌, ◌≤◌, ◌^◌, ◌==◌, nat_lt, Bool, if◌then◌else◌, List, [], ◌∷◌, ◌++◌, length, All, AllPairs, filter, sum_by}
use Rattle.circular_buffer.specs.Buffer.{Buffer, buffer}
use Rattle.gcc_units.specs.Priority.{rank_of}
use Rattle.gcc_units.specs.declared.limits.TheConstants.{MOST_WAITING}
use Rattle.pace_queues.specs.declared.ticket.Ticket.{Ticket}
use Rattle.pace_queues.specs.Waiting.{CameBefore, size_of, accepted_at_of}

abbrev pub has_rank : ℕ → Ticket → Bool
has_rank rank t = rank_of t.class == rank

-- those of a rank
abbrev pub of_rank : ℕ → List Ticket → List Ticket
of_rank rank ts = filter (has_rank rank) ts

-- a ticket before the first that has a greater index
abbrev pub put_in : Ticket → List Ticket → List Ticket
put_in t [] = t ∷ []
put_in t (u ∷ us) = if nat_lt t.index u.index then t ∷ u ∷ us else u ∷ put_in t us

-- sorted by their indices
abbrev pub by_index : List Ticket → List Ticket
by_index [] = []
by_index (t ∷ ts) = put_in t (by_index ts)

-- the tickets of three rings in the order of arrival
unfoldable pub in_order : List Ticket → List Ticket → List Ticket → List Ticket
in_order first second third = by_index (first ++ (second ++ third))

-- its numbers fit their types
pub record Fits (t : Ticket) : Type 0 where
  pub size : t.size < 2 ^ 32
  pub accepted_at : t.accepted_at < 2 ^ 64

-- the rings hold what waits, each that of its rank, and the sums are those of all that waits
pub record AreRings (first second third : Buffer Ticket) (bytes accepted : ℕ) : Type 0 where
  pub waiting : List Ticket
  pub rising : AllPairs CameBefore waiting
  pub few : length waiting ≤ MOST_WAITING
  pub fits : All Fits waiting
  pub first_is : first ≡ buffer (of_rank 0 waiting) MOST_WAITING
  pub second_is : second ≡ buffer (of_rank 1 waiting) MOST_WAITING
  pub third_is : third ≡ buffer (of_rank 2 waiting) MOST_WAITING
  pub bytes_is : bytes ≡ sum_by size_of waiting
  pub accepted_is : accepted ≡ sum_by accepted_at_of waiting
