-- The controls by their numbers, as C asks for them.
use Rattle.std.specs.Prelude.{ℕ, ◌==◌, ◌||◌, nat_lt, if◌then◌else◌, Option, None, Some}
use Rattle.gcc_units.specs.declared.limits.TheConstants.{GREATEST_RATE, LEAST_RATE}
use Rattle.steered_sender.specs.declared.steered.Control.{Control}
use Rattle.steered_sender.specs.declared.steered.Control.TheVariants.{Gradient, Level}
use Rattle.capi.specs.declared.controls.TheConstants.{START}

-- 0 stands for the rate that a control begins at where none is given
abbrev pub start_given : ℕ → ℕ
start_given start = if start == 0 then START else start

abbrev pub level_from : ℕ → Option Control
level_from start = if nat_lt start LEAST_RATE || nat_lt GREATEST_RATE start then None else Some (Level start)

-- 0 the level control from this rate on, 1 the two estimates of the draft
abbrev pub control_named : ℕ → ℕ → Option Control
control_named control start = if control == 0 then level_from (start_given start) else (if control == 1 then Some Gradient else None)
