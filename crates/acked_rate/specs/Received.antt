-- The received rate over all packets that arrived.
use Rattle.std.specs.Prelude.{ℕ, ℤ, ◌-ℤ◌, ◌*◌, int_lt, if◌then◌else◌, min, Option, Some, None, List, fold, sum_by}
use Rattle.std.specs.Int.{int_min, int_max}
use Rattle.gcc_units.specs.declared.limits.TheConstants.{GREATEST_RATE}
use Rattle.acked_rate.specs.declared.TheConstants.{WINDOW, RATE_OF_BYTE}
use Rattle.acked_rate.specs.declared.sums.Span.{Span}

-- a packet that arrived then, with so many bytes
pub record Add : Type 0 where
  pub arrival : ℤ
  pub size : ℕ

abbrev pub widened : Option Span → ℤ → Span
widened None arrival = record { oldest = arrival; newest = arrival }
widened (Some s) arrival = record { oldest = int_min s.oldest arrival; newest = int_max s.newest arrival }

-- the oldest and the newest arrival; none before anything arrived
abbrev pub span_of : List Add → Option Span
span_of adds = fold (λ span (x : Add). Some (widened span x.arrival)) None adds

-- the bytes of a packet that count: of one that arrived after the limit
abbrev pub weight : ℤ → Add → ℕ
weight limit x = if int_lt limit x.arrival then x.size else 0

-- all bytes that arrived after the limit
abbrev pub size_above : ℤ → List Add → ℕ
size_above limit adds = sum_by (weight limit) adds

-- The rate of the last window, where all arrivals span one.
abbrev pub rate_in : Option Span → List Add → Option ℕ
rate_in None adds = None
rate_in (Some s) adds =
    if int_lt (s.newest -ℤ s.oldest) WINDOW then None
    else Some (min (RATE_OF_BYTE * size_above (s.newest -ℤ WINDOW) adds) GREATEST_RATE)

abbrev pub acked : List Add → Option ℕ
acked adds = rate_in (span_of adds) adds
