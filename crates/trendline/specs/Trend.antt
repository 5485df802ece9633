-- The slope of the delays over their arrival times.
use Rattle.std.specs.Prelude.{ℕ, ℤ, pos, neg_ℤ, ◌+ℤ◌, ◌-ℤ◌, ◌*ℤ◌, ◌*◌, ◌-◌, nat_lt, min, if◌then◌else◌, Option, Some, None, List, [], ◌∷◌, ◌++◌, length, drop}
use Rattle.std.specs.Option.{unwrap_or}
use Rattle.std.specs.Ordering.{int_eq}
use Rattle.std.specs.Int.{int_min, int_max}
use Rattle.fixed_math.specs.Floor.{floor_div}
use Rattle.gcc_units.specs.declared.shared_types.Sample.{Sample}
use Rattle.gcc_units.specs.declared.shared_types.Signal.{Signal}
use Rattle.gcc_units.specs.Walk.{each_by}
use Rattle.overuse.specs.Detector as detector
use Rattle.trendline.specs.declared.TheConstants.{MOST_POINTS, GREATEST_SLOPE, TREND_GAIN, MOST_DELTAS}
use Rattle.trendline.specs.declared.sums.Point.{Point}
use Rattle.trendline.specs.declared.sums.Sums.{Sums}

-- a sum of integers, one for each
abbrev pub total : {A : Type 0} → (A → ℤ) → List A → ℤ
total f [] = pos 0
total f (x ∷ xs) = f x +ℤ total f xs

-- ---- points

abbrev pub gap_of : Sample → ℤ
gap_of s = s.arrival_gap

abbrev pub delay_of : Sample → ℤ
delay_of s = s.d

-- what these samples come to: all arrival gaps, and all delays, together
abbrev pub point_of : List Sample → Point
point_of samples = record { x = total gap_of samples; y = total delay_of samples }

-- a point for each sample: what it and those before it come to
abbrev pub points : List Sample → List Point
points samples = each_by (λ before s. point_of (before ++ s ∷ [])) [] samples

-- the last so many
abbrev pub last_of : {A : Type 0} → ℕ → List A → List A
last_of n xs = drop (length xs - n) xs

abbrev pub last_points : List Sample → List Point
last_points samples = last_of MOST_POINTS (points samples)

-- ---- the line through points

abbrev pub x_of : Point → ℤ
x_of p = p.x

abbrev pub y_of : Point → ℤ
y_of p = p.y

abbrev pub product_of : Point → ℤ
product_of p = p.x *ℤ p.y

abbrev pub square_of : Point → ℤ
square_of p = p.x *ℤ p.x

-- of both coordinates, of their products, and of the squares of the first
abbrev pub sums_of : List Point → Sums
sums_of ps = record { x = total x_of ps; y = total y_of ps; xy = total product_of ps; xx = total square_of ps }

abbrev pub rise_of : Sums → ℤ
rise_of s = (pos MOST_POINTS *ℤ s.xy) -ℤ (s.x *ℤ s.y)

-- It is not below 0, and 0 where all points lie at one time.
abbrev pub spread_of : Sums → ℤ
spread_of s = (pos MOST_POINTS *ℤ s.xx) -ℤ (s.x *ℤ s.x)

-- The slope, 4 quarter-milliseconds to the millisecond, cut. There is none where all points lie at one time.
abbrev pub fit : ℤ → ℤ → Option ℤ
fit rise spread =
    if int_eq spread (pos 0) then None else Some (int_max (neg_ℤ GREATEST_SLOPE) (int_min (floor_div (pos 4 *ℤ rise) spread) GREATEST_SLOPE))

-- the slope after these samples, by the last points
unfoldable pub slope : List Sample → Option ℤ
slope samples =
    if nat_lt (length samples) MOST_POINTS then None else fit (rise_of (sums_of (last_points samples))) (spread_of (sums_of (last_points samples)))

-- ---- the trend

-- what the detector is given for a slope after so many samples
abbrev pub trend_of : ℕ → Option ℤ → ℤ
trend_of count rising = pos (TREND_GAIN * min count MOST_DELTAS) *ℤ unwrap_or rising (pos 0)

-- the trend after these samples
abbrev pub trend : List Sample → ℤ
trend samples = trend_of (length samples) (slope samples)

-- what a detector of the trend's own is given for these samples
abbrev pub steps : List Sample → List detector.Step
steps samples = each_by (λ before s. record { mean = trend (before ++ s ∷ []); sample = s }) [] samples

-- the signals of that detector
abbrev pub signals : List Sample → List Signal
signals samples = detector.signals (steps samples)
