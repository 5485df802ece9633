-- The order of allocation: weight falling, then id rising.
use Rattle.std.specs.Prelude.{◌≡◌, ◌⊎◌, ◌<◌, ◌==◌, ◌&&◌, ◌||◌, nat_lt, Bool, List, [], fold}
use Rattle.allocator.specs.declared.stream.Stream.{Stream}
use Rattle.allocator.specs.Streams.{placed}

-- a greater weight, or the same weight and a lesser id
abbrev pub goes_before : Stream → Stream → Bool
goes_before s t = nat_lt t.weight s.weight || ((s.weight == t.weight) && nat_lt s.id t.id)

abbrev pub GoesBefore : Stream → Stream → Type 0
GoesBefore s t = (t.weight < s.weight) ⊎ ((s.weight ≡ t.weight) × (s.id < t.id))

unfoldable pub in_order : List Stream → List Stream
in_order streams = fold (placed goes_before) [] streams
