-- What a window keeps, and the packets that it stands for.
use Rattle.std.specs.Prelude.{◌≡◌, ℕ, ℤ, neg_ℤ, ◌-ℤ◌, ◌≤ℤ◌, ◌*◌, ◌≤◌, ◌<◌, int_lt, if◌then◌else◌, Option, Some, None, List, [], length, sum, sum_by, All}
use Rattle.std.specs.Option.{ForSome}
use Rattle.circular_buffer.specs.Buffer.{Buffer}
use Rattle.gcc_units.specs.declared.limits.TheConstants.{GREATEST_ARRIVAL, GREATEST_PACKET, MOST_PACKETS}
use Rattle.acked_rate.specs.declared.TheConstants.{WINDOW}
use Rattle.acked_rate.specs.declared.sums.Span.{Span}
use Rattle.acked_rate.specs.Received.{Add, span_of, size_above}
use Rattle.acked_rate.specs.Ring.{Sum, IsFull}

-- the span of all arrivals, and a sum for each arrival in the window
pub record Kept : Type 0 where
  pub span : Option Span
  pub sums : List Sum

-- the bytes of a sum that count
abbrev pub held : ℤ → Sum → ℕ
held limit s = if int_lt limit s.arrival then s.bytes else 0

abbrev pub sum_above : ℤ → List Sum → ℕ
sum_above limit sums = sum_by (held limit) sums

-- ---- what holds of all that is kept

pub record IsSpan (s : Span) : Type 0 where
  pub low : neg_ℤ GREATEST_ARRIVAL ≤ℤ s.oldest
  pub order : s.oldest ≤ℤ s.newest
  pub high : s.newest ≤ℤ GREATEST_ARRIVAL

-- before anything arrived all sums are 0
abbrev pub IsFilled : Option Span → List ℕ → Type 0
IsFilled None ring = sum ring ≡ 0
IsFilled (Some s) ring = Unit {0}

-- the newest arrival of a span is not after this one
abbrev pub IsUntil : Option Span → ℤ → Type 0
IsUntil None newest = Unit {0}
IsUntil (Some s) newest = s.newest ≤ℤ newest

pub record IsKept (known : Option Span) (ring : Buffer ℕ) (all : ℕ) : Type 0 where
  pub full : IsFull ring
  pub span : ForSome known IsSpan
  pub filled : IsFilled known ring.items
  pub total : all ≡ sum ring.items
  pub few : sum ring.items ≤ MOST_PACKETS * GREATEST_PACKET

-- ---- what it stands for

-- The sums agree with the packets above each limit from the window's start on.
abbrev pub AgreesAbove : Option Span → List Sum → List Add → Type 0
AgreesAbove None sums adds = sums ≡ []
AgreesAbove (Some s) sums adds = (limit : ℤ) → (s.newest -ℤ WINDOW) ≤ℤ limit → sum_above limit sums ≡ size_above limit adds

-- The window was given these packets.
pub record StandsFor (now : Kept) (adds : List Add) : Type 0 where
  pub span : now.span ≡ span_of adds
  pub above : AgreesAbove now.span now.sums adds

-- ---- what it may be given next

pub record IsWithin (x : Add) : Type 0 where
  pub low : neg_ℤ GREATEST_ARRIVAL ≤ℤ x.arrival
  pub high : x.arrival ≤ℤ GREATEST_ARRIVAL
  pub size : x.size ≤ GREATEST_PACKET

-- It was given fewer packets than the most.
abbrev pub TakesAdd : Kept → Type 0
TakesAdd now = (adds : List Add) × StandsFor now adds × All IsWithin adds × (length adds < MOST_PACKETS)
