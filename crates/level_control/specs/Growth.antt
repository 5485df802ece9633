-- How a rate grows. Rates are bit/s, times microseconds.
use Rattle.std.specs.Prelude.{ℕ, ◌+◌, ◌-◌, ◌*◌, ◌/◌, min, max, Bool, true, nat_lt, Option, Some, None, if◌then◌else◌}
use Rattle.fixed_math.specs.Root.{root}
use Rattle.level_control.specs.declared.growth.TheConstants.{LONGEST_STEP, ALL_PERCENT, FAR_PERCENT, GROWTH_PERCENT, PERCENT_SECOND, GROWTH_ROOTS, SECOND, LIMIT_PERCENT}

-- No capacity is known, or the rate is beyond it.
abbrev pub is_far : ℕ → Option ℕ → Bool
is_far rate None = true
is_far rate (Some known) = nat_lt (FAR_PERCENT * known) (ALL_PERCENT * rate)

-- the time since the last report, cut; none before the first
abbrev pub elapsed : Option ℕ → ℕ → ℕ
elapsed None now = 0
elapsed (Some last) now = min LONGEST_STEP (now - last)

-- far by a part for each second, near by so many roots
abbrev pub grown : ℕ → Bool → ℕ → ℕ
grown rate far time =
    if far then rate + GROWTH_PERCENT * rate * time / PERCENT_SECOND else rate + GROWTH_ROOTS * root rate * time / SECOND

-- Growth ends at one and a half of the received rate, and never lowers.
abbrev pub limited : ℕ → ℕ → Option ℕ → ℕ
limited rate next None = next
limited rate next (Some received) = max rate (min next (LIMIT_PERCENT * received / ALL_PERCENT))
