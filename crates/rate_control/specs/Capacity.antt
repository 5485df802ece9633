-- The received rates at decreases: their average and variance in kbit/s.
use Rattle.std.specs.Prelude.{ℕ, ◌+◌, ◌-◌, ◌*◌, ◌/◌, ◌≤◌, nat_le, nat_lt, Bool, false, Option, Some, None, if◌then◌else◌}
use Rattle.std.specs.Int.{abs_diff}
use Rattle.fixed_math.specs.Root.{root}
use Rattle.rate_control.specs.declared.state.Capacity.{Capacity}
use Rattle.rate_control.specs.declared.state.TheConstants.{GREATEST_KILOBITS}
use Rattle.rate_control.specs.declared.capacity.TheConstants.{NEAR_DEVIATIONS, KEPT_PERCENT, ALL_PERCENT}

-- a rate in whole kbit/s
abbrev pub kilobits : ℕ → ℕ
kilobits rate = rate / 1000

-- so many standard deviations, each a root that is rounded down
abbrev pub spread : Capacity → ℕ
spread c = NEAR_DEVIATIONS * root c.variance

-- no further from the average than that
abbrev pub is_near : Capacity → ℕ → Bool
is_near c received = nat_le (abs_diff received c.average) (spread c)

-- further above the average than that
abbrev pub is_above : Capacity → ℕ → Bool
is_above c received = nat_lt (c.average + spread c) received

-- no further below the average than that
abbrev pub is_not_below : Capacity → ℕ → Bool
is_not_below c received = nat_le c.average (received + spread c)

-- the mean of what was kept and what comes in, by their parts, rounded down
abbrev pub smoothed : ℕ → ℕ → ℕ
smoothed old new = (KEPT_PERCENT * old + (ALL_PERCENT - KEPT_PERCENT) * new) / ALL_PERCENT

abbrev pub squared_distance : ℕ → ℕ → ℕ
squared_distance one other = abs_diff one other * abs_diff one other

-- with one more received rate; the variance is about the new average
abbrev pub averaged : Capacity → ℕ → Capacity
averaged c received =
    let average = smoothed c.average received in
    record { average = average; variance = smoothed c.variance (squared_distance received average) }

-- the first received rate, or the first one after a change
abbrev pub begun : ℕ → Capacity
begun received = record { average = received; variance = received }

-- after a decrease with this received rate: averaged where it is near, and else begun anew
abbrev pub after_decrease : Option Capacity → ℕ → Capacity
after_decrease None received = begun received
after_decrease (Some c) received = if is_near c received then averaged c received else begun received

-- At an increase with a received rate above it, it is forgotten.
abbrev pub after_increase : Option Capacity → Option ℕ → Option Capacity
after_increase None received = None
after_increase (Some c) None = Some c
after_increase (Some c) (Some received) = if is_above c received then None else Some c

-- It is known, and the received rate is not below it.
abbrev pub is_approached : Option Capacity → Option ℕ → Bool
is_approached None received = false
is_approached (Some c) None = false
is_approached (Some c) (Some received) = is_not_below c received

-- where its numbers lie
pub record IsInRange (c : Capacity) : Type 0 where
  pub average : c.average ≤ GREATEST_KILOBITS
  pub variance : c.variance ≤ GREATEST_KILOBITS * GREATEST_KILOBITS
