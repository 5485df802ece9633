-- Breakpoints: where the streams' shares leave their minimum, and where they reach their maximum.
use Rattle.std.specs.Prelude.{◌≡◌, ℕ, ◌+◌, ◌/◌, ◌≤◌, nat_le, Bool, true, false, if◌then◌else◌, List, [], ◌∷◌, slice_index_or}
use Rattle.std.specs.List.Sorted.{IsPermutation, IsNonDecreasingBy}
use Rattle.gcc_units.specs.declared.limits.TheConstants.{GREATEST_RATE}
use Rattle.allocator.specs.declared.stream.Stream.{Stream}
use Rattle.allocator.specs.declared.stream.TheConstants.{GREATEST_WEIGHT}
use Rattle.allocator.specs.declared.breakpoints.Breakpoint.{Breakpoint}
use Rattle.allocator.specs.Shares.{enforced_minima, served}

-- of the stream at a place in the order: the last level at which its weight times the level is at most its minimum, and at most its maximum
abbrev pub lower : ℕ → Stream → Breakpoint
lower place s = record { level = s.min / s.weight; place = place; weight = s.weight; bound = s.min; is_upper = false }

abbrev pub upper : ℕ → Stream → Breakpoint
upper place s = record { level = s.max / s.weight; place = place; weight = s.weight; bound = s.max; is_upper = true }

abbrev pub breakpoints_from : ℕ → List Stream → List Breakpoint
breakpoints_from place [] = []
breakpoints_from place (s ∷ ss) = lower place s ∷ upper place s ∷ breakpoints_from (place + 1) ss

-- the breakpoints of the streams, which are in order, by level
pub record AreBreakpoints (ordered : List Stream) (points : List Breakpoint) : Type 0 where
  pub all : IsPermutation (breakpoints_from 0 ordered) points
  pub rising : IsNonDecreasingBy (λ (p : Breakpoint). p.level) points

pub record IsWithin (p : Breakpoint) : Type 0 where
  pub level : p.level ≤ GREATEST_RATE
  pub weight : p.weight ≤ GREATEST_WEIGHT
  pub bound : p.bound ≤ GREATEST_RATE

-- what passing a breakpoint adds to the slope and takes off it, and takes off the constant and adds to it
abbrev pub rise_of : Breakpoint → ℕ
rise_of p = if p.is_upper then 0 else p.weight

abbrev pub fall_of : Breakpoint → ℕ
fall_of p = if p.is_upper then p.weight else 0

abbrev pub gone_of : Breakpoint → ℕ
gone_of p = if p.is_upper then 0 else p.bound

abbrev pub full_of : Breakpoint → ℕ
full_of p = if p.is_upper then p.bound else 0

-- whether each of the streams in order is served, where minima of so much are served already
abbrev pub are_served_beside : ℕ → ℕ → List Stream → List Bool
are_served_beside total minima [] = []
are_served_beside total minima (s ∷ ss) =
    if s.enforced then true ∷ are_served_beside total minima ss
    else (if nat_le (minima + s.min) total then true ∷ are_served_beside total (minima + s.min) ss
    else false ∷ are_served_beside total minima ss)

abbrev pub are_served : ℕ → List Stream → List Bool
are_served total ordered = are_served_beside total (enforced_minima ordered) ordered

abbrev pub is_marked : List Bool → Breakpoint → Bool
is_marked marks p = slice_index_or marks p.place false

-- the breakpoints of streams in order, which of these are served, and those that are
pub record AreOfServed (total : ℕ) (streams : List Stream) (marks : List Bool) (points : List Breakpoint) : Type 0 where
  pub ordered : List Stream
  pub all : AreBreakpoints ordered points
  pub lent : streams ≡ served total ordered
  pub marked : marks ≡ are_served total ordered
