-- Ranges of points and of sums over them, and what a window keeps.
use Rattle.std.specs.Prelude.{◌≡◌, ℕ, ℤ, pos, neg_ℤ, ◌+ℤ◌, ◌-ℤ◌, ◌*ℤ◌, ◌≤ℤ◌, ◌*◌, ◌≤◌, unsigned_abs, List, length, All}
use Rattle.gcc_units.specs.declared.limits.TheConstants.{GREATEST_DELAY, JOURNAL_PACKETS}
use Rattle.trendline.specs.declared.TheConstants.{MOST_POINTS, GREATEST_TIME}
use Rattle.trendline.specs.declared.sums.Point.{Point}
use Rattle.trendline.specs.declared.sums.Sums.{Sums}
use Rattle.trendline.specs.Trend.{sums_of}

-- no farther from 0
pub record IsNear (most : ℕ) (z : ℤ) : Type 0 where
  pub low : neg_ℤ (pos most) ≤ℤ z
  pub high : z ≤ℤ pos most

-- all delays together
abbrev pub most_delay : ℕ
most_delay = JOURNAL_PACKETS * unsigned_abs GREATEST_DELAY

pub record IsPointSmall (p : Point) : Type 0 where
  pub x : IsNear GREATEST_TIME p.x
  pub y : IsNear most_delay p.y

-- sums over so many points
pub record AreSmall (count : ℕ) (s : Sums) : Type 0 where
  pub x : IsNear (count * GREATEST_TIME) s.x
  pub y : IsNear (count * most_delay) s.y
  pub xy : IsNear (count * (GREATEST_TIME * most_delay)) s.xy
  pub xx : IsNear (count * (GREATEST_TIME * GREATEST_TIME)) s.xx

abbrev pub most_product : ℕ
most_product = 2 * (MOST_POINTS * GREATEST_TIME * (MOST_POINTS * most_delay))

abbrev pub most_squares : ℕ
most_squares = 2 * (MOST_POINTS * GREATEST_TIME * (MOST_POINTS * GREATEST_TIME))

-- the sums with a point more, and without one
abbrev pub with_point : Sums → Point → Sums
with_point s p = record { x = s.x +ℤ p.x; y = s.y +ℤ p.y; xy = s.xy +ℤ (p.x *ℤ p.y); xx = s.xx +ℤ (p.x *ℤ p.x) }

abbrev pub without_point : Sums → Point → Sums
without_point s p = record { x = s.x -ℤ p.x; y = s.y -ℤ p.y; xy = s.xy -ℤ (p.x *ℤ p.y); xx = s.xx -ℤ (p.x *ℤ p.x) }

pub record IsHeld (capacity : ℕ) (sums : Sums) (points : List Point) : Type 0 where
  pub room : capacity ≡ MOST_POINTS
  pub few : length points ≤ MOST_POINTS
  pub small : All IsPointSmall points
  pub summed : sums ≡ sums_of points
