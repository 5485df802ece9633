-- The order in which packets leave, and their numbers.
use Rattle.std.specs.Prelude.{◌≡◌, ℕ, ◌+◌, false, Option, None, Some, List, [], ◌∷◌, ◌++◌}
use Rattle.pace_queues.specs.declared.ticket.Ticket.{Ticket}
use Rattle.pace_queues.specs.Waiting.{next}
use Rattle.pacer.specs.declared.sent.Sent.{Sent}
use Rattle.pacer.specs.Pace.{names, unsent, index_of}

-- each record is of the packet that goes next among those that no record so far is of; of none, only where none is left
abbrev pub AreInOrder : List Ticket → List Sent → List Sent → Type 0
AreInOrder tickets so_far [] = Unit {0}
AreInOrder tickets so_far (r ∷ rs) = (r.index ≡ index_of (next (unsent so_far tickets))) × AreInOrder tickets (so_far ++ r ∷ []) rs

abbrev pub IsNotAmong : List Sent → Option ℕ → Type 0
IsNotAmong records None = Unit {0}
IsNotAmong records (Some index) = names index records ≡ false

-- no record is of a packet that a record before it is of
abbrev pub AreFresh : List Sent → List Sent → Type 0
AreFresh so_far [] = Unit {0}
AreFresh so_far (r ∷ rs) = IsNotAmong so_far r.index × AreFresh (so_far ++ r ∷ []) rs

-- the records are numbered one after the other, from this number on
abbrev pub AreNumbered : ℕ → List Sent → Type 0
AreNumbered number [] = Unit {0}
AreNumbered number (r ∷ rs) = (r.number ≡ number) × AreNumbered (number + 1) rs
