-- Shares of a target: the served streams stand at one level within their bounds, and what is left goes to them in order.
use Rattle.std.specs.Prelude.{ℕ, ◌+◌, ◌*◌, ◌-◌, ◌<◌, ◌==◌, nat_le, max, min, if◌then◌else◌, Bool, Option, None, Some, List, [], ◌∷◌, map, sum_by}
use Rattle.gcc_units.specs.declared.limits.TheConstants.{GREATEST_RATE}
use Rattle.gcc_units.specs.declared.shared_types.Share.{Share}
use Rattle.allocator.specs.declared.stream.Stream.{Stream}
use Rattle.allocator.specs.Greatest.{greatest}
use Rattle.allocator.specs.Order.{in_order}

abbrev pub enforced_minimum : Stream → ℕ
enforced_minimum s = if s.enforced then s.min else 0

abbrev pub enforced_minima : List Stream → ℕ
enforced_minima streams = sum_by enforced_minimum streams

-- of the streams in order, where minima of so much are served already: each that is enforced, and each other whose minimum still fits
abbrev pub served_beside : ℕ → ℕ → List Stream → List Stream
served_beside total minima [] = []
served_beside total minima (s ∷ ss) =
    if s.enforced then s ∷ served_beside total minima ss
    else (if nat_le (minima + s.min) total then s ∷ served_beside total (minima + s.min) ss
    else served_beside total minima ss)

-- the streams that are served, in order: the minima of all enforced ones come first
abbrev pub served : ℕ → List Stream → List Stream
served total ordered = served_beside total (enforced_minima ordered) ordered

-- a served stream's share at a level
abbrev pub share_at : ℕ → Stream → ℕ
share_at level s = max s.min (min s.max (s.weight * level))

abbrev pub sum_at : ℕ → List Stream → ℕ
sum_at level streams = sum_by (share_at level) streams

-- the shares at a level are at most the total
abbrev pub fits : ℕ → List Stream → ℕ → Bool
fits total streams level = nat_le (sum_at level streams) total

-- the greatest level whose shares fit, if one does
abbrev pub level_of : ℕ → List Stream → Option ℕ
level_of total streams = greatest (fits total streams) GREATEST_RATE

-- what a stream gets of what is left: at most its weight, and at most up to its maximum
abbrev pub extra : ℕ → ℕ → Stream → ℕ
extra level left s = min left (min s.weight (s.max - share_at level s))

-- the shares at a level, and what is left to the streams in order
abbrev pub spread : ℕ → ℕ → List Stream → List Share
spread level left [] = []
spread level left (s ∷ ss) =
    record { id = s.id; rate = share_at level s + extra level left s } ∷ spread level (left - extra level left s) ss

abbrev pub minimum : Stream → Share
minimum s = record { id = s.id; rate = s.min }

-- what the served streams get at a level; where there is none, their minima
abbrev pub given_at : Option ℕ → ℕ → List Stream → List Share
given_at None total streams = map minimum streams
given_at (Some level) total streams = spread level (total - sum_at level streams) streams

-- the rate of an id, which is 0 where it has none
abbrev pub rate_of : List Share → ℕ → ℕ
rate_of [] id = 0
rate_of (x ∷ xs) id = if x.id == id then x.rate else rate_of xs id

abbrev pub share_in : List Share → Stream → Share
share_in given s = record { id = s.id; rate = rate_of given s.id }

-- what the served of these streams, which are in order, get
abbrev pub given : ℕ → List Stream → List Share
given total ordered = given_at (level_of total (served total ordered)) total (served total ordered)

-- the share of each stream
unfoldable pub shares : ℕ → List Stream → List Share
shares total streams = map (share_in (given total (in_order streams))) streams

abbrev pub share_id : Share → ℕ
share_id x = x.id

abbrev pub HasLesserShareId : Share → Share → Type 0
HasLesserShareId x y = x.id < y.id
