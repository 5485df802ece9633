-- The level after one more deed, by the level before it.
use Rattle.std.proofs.Common.{ℤ, pos, ◌*◌, ◌+ℤ◌, ◌-ℤ◌}
use Rattle.std.specs.Int.{int_min}
use Rattle.pace_budget.specs.Level.{Deed, Advance, Spend, Probe, Soft, bits}

abbrev pub step : ℤ → Deed → ℤ
step now (Advance rate dt window) = int_min (now +ℤ pos (rate * dt)) (pos (rate * window))
step now (Spend size) = now -ℤ bits size
step now (Probe size) = now -ℤ bits size
step now (Soft amount) = now -ℤ pos amount
