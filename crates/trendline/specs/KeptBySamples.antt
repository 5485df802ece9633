-- The samples that a trend was given.
use Rattle.std.specs.Prelude.{◌≡◌, ℕ, ◌+ℤ◌, ◌≤◌, unsigned_abs, List, [], ◌∷◌, ◌++◌, length, take, All}
use Rattle.gcc_units.specs.declared.shared_types.Credit.{Credit}
use Rattle.gcc_units.specs.declared.shared_types.Sample.{Sample}
use Rattle.gcc_units.specs.declared.limits.TheConstants.{GREATEST_DELAY, JOURNAL_PACKETS}
use Rattle.packet_groups.specs.Groups as groups
use Rattle.packet_groups.specs.Kept as grouped
use Rattle.trendline.specs.declared.TheConstants.{GREATEST_TIME}
use Rattle.trendline.specs.declared.sums.Point.{Point}
use Rattle.trendline.specs.Trend.{total, gap_of, point_of, last_points}
use Rattle.trendline.specs.Ranges.{IsNear, IsPointSmall}

-- what is kept: the last points, the newest one of all, and the number of samples
pub record Kept : Type 0 where
  pub points : List Point
  pub last : Point
  pub count : ℕ

-- The trend was given these samples.
pub record StandsFor (now : Kept) (samples : List Sample) : Type 0 where
  pub points : now.points ≡ last_points samples
  pub last : now.last ≡ point_of samples
  pub count : now.count ≡ length samples

-- ---- what it may be given next

-- the delay of the sample is in its range
abbrev pub IsDelayWithin : Sample → Type 0
IsDelayWithin s = IsNear (unsigned_abs GREATEST_DELAY) s.d

-- Few samples, with delays in their range, of which the first ones never take longer than the greatest time.
pub record AreWithin (samples : List Sample) : Type 0 where
  pub few : length samples ≤ JOURNAL_PACKETS
  pub delays : All IsDelayWithin samples
  pub times : (k : ℕ) → IsNear GREATEST_TIME (total gap_of (take k samples))

-- With this sample, those that it was given are within.
abbrev pub TakesSample : Kept → Sample → Type 0
TakesSample now s = (samples : List Sample) × StandsFor now samples × AreWithin (samples ++ s ∷ [])

-- ---- the point after a sample

abbrev pub moved : Point → Sample → Point
moved p s = record { x = p.x +ℤ s.arrival_gap; y = p.y +ℤ s.d }

abbrev pub MovesWithin : Point → Sample → Type 0
MovesWithin p s = IsPointSmall (moved p s)

-- ---- the law

-- of a journal's credits, few and in their ranges, the samples are within
abbrev pub GapsStayWithin : Type 0
GapsStayWithin = (credits : List Credit) → All grouped.IsOfJournal credits → length credits ≤ JOURNAL_PACKETS → AreWithin (groups.samples credits)
