-- The rule of delay control: what a step, a setting and a probe make of its state.
use Rattle.std.specs.Prelude.{ℕ, ◌-◌, ◌*◌, ◌/◌, min, max, unwrap_or, Option, Some, None, option_map}
use Rattle.std.specs.Option.{ForSome}
use Rattle.gcc_units.specs.declared.shared_types.Bounds.{Bounds}
use Rattle.gcc_units.specs.declared.shared_types.Signal.{Signal}
use Rattle.gcc_units.specs.declared.shared_types.Signal.TheVariants.{Normal, Over, Under}
use Rattle.gcc_units.specs.Rates.{bounded, IsRate}
use Rattle.rate_control.specs.declared.state.Mode.{Mode}
use Rattle.rate_control.specs.declared.state.Mode.TheVariants.{Increase, Hold, Decrease}
use Rattle.rate_control.specs.declared.state.State.{State}
use Rattle.rate_control.specs.declared.state.TheConstants.{LONGEST_STEP}
use Rattle.rate_control.specs.declared.step.TheConstants.{REDUCED_PERCENT}
use Rattle.rate_control.specs.declared.capacity.TheConstants.{ALL_PERCENT}
use Rattle.rate_control.specs.Capacity.{kilobits, after_decrease, after_increase, is_approached, IsInRange}
use Rattle.rate_control.specs.Increase.{raised, limited}

-- before the first step
abbrev pub started : ℕ → State
started rate = record { mode = Increase; rate = rate; last = None; capacity = None }

-- ---- the parts of a step

abbrev pub next_mode : Mode → Signal → Mode
next_mode mode Over = Decrease
next_mode mode Under = Hold
next_mode Increase Normal = Increase
next_mode Hold Normal = Increase
next_mode Decrease Normal = Hold

-- the time since the last step, cut; none before the first
abbrev pub elapsed : Option ℕ → ℕ → ℕ
elapsed None now = 0
elapsed (Some last) now = min (now - last) LONGEST_STEP

-- what a decrease leaves of a rate
abbrev pub reduced : ℕ → ℕ
reduced rate = REDUCED_PERCENT * rate / ALL_PERCENT

-- to that part of the estimate, or where there is one, to no more than that part of the received rate
abbrev pub decreased : State → Option ℕ → State
decreased s None = record s { rate = reduced s.rate }
decreased s (Some received) =
    record s {
      rate = min s.rate (reduced received);
      capacity = Some (after_decrease s.capacity (kilobits received));
    }

-- The capacity is forgotten first, where the received rate is above it.
abbrev pub increased : State → Option ℕ → ℕ → ℕ → State
increased s acked rtt dt =
    let received = option_map kilobits acked in
    let capacity = after_increase s.capacity received in
    let next = raised (is_approached capacity received) s.rate rtt dt in
    record s { rate = limited s.rate next acked; capacity = capacity }

-- what the new mode makes of it
abbrev pub moved : Mode → State → Option ℕ → ℕ → ℕ → State
moved Hold s acked rtt dt = s
moved Decrease s acked rtt dt = decreased s acked
moved Increase s acked rtt dt = increased s acked rtt dt

-- the estimate, put in bounds
abbrev pub put_in : Bounds → State → State
put_in bounds s = record s { rate = bounded bounds s.rate }

-- ---- the calls

-- A step: the mode, the time, then by the mode, then the bounds.
abbrev pub step : State → Signal → Option ℕ → ℕ → ℕ → Bounds → State
step s signal acked rtt now bounds =
    let mode = next_mode s.mode signal in
    put_in bounds (moved mode (record s { mode = mode; last = Some now }) acked rtt (elapsed s.last now))

-- the estimate put to a start, where one is given, and then into bounds
abbrev pub set_to : State → Option ℕ → Bounds → State
set_to s start bounds = put_in bounds (record s { rate = unwrap_or start s.rate })

-- the estimate put to a probed rate that is greater, and then into bounds
abbrev pub with_probe : State → ℕ → Bounds → State
with_probe s probed bounds = put_in bounds (record s { rate = max s.rate probed })

-- where its numbers lie
pub record IsKept (s : State) : Type 0 where
  pub rate : IsRate s.rate
  pub capacity : ForSome s.capacity IsInRange
