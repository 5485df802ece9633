-- The rule of loss control.
use Rattle.std.specs.Prelude.{ℕ, ◌+◌, ◌-◌, ◌*◌, ◌/◌, Bool, ◌&&◌, nat_le, nat_lt, if◌then◌else◌, Some, None, unwrap_or}
use Rattle.gcc_units.specs.declared.shared_types.Bounds.{Bounds}
use Rattle.gcc_units.specs.Rates.{bounded}
use Rattle.loss_control.specs.declared.TheConstants.{LOSS_PERIOD, FEWEST_PACKETS, HIGH_LOSS, LOW_LOSS, RAISED_PERCENT, ALL_PERCENT}
use Rattle.loss_control.specs.declared.step.State.{State}

-- what a report tells: the packets that are credited, and those that are missing
pub record Counts : Type 0 where
  pub received : ℕ
  pub missing : ℕ

abbrev pub begun : ℕ → State
begun rate = record { estimate = rate; received = 0; missing = 0; since = None }

-- gathered for a period, and of enough packets
abbrev pub is_due : ℕ → ℕ → ℕ → Bool
is_due since now total = nat_le (since + LOSS_PERIOD) now && nat_le FEWEST_PACKETS total

-- Where more than a tenth is missing, half of the missing part is taken off. Where less than a fiftieth is, a twentieth is added.
abbrev pub judged : ℕ → ℕ → ℕ → ℕ
judged rate total missing =
    if nat_lt total (HIGH_LOSS * missing) then rate * (2 * total - missing) / (2 * total)
    else (if nat_lt (LOW_LOSS * missing) total then RAISED_PERCENT * rate / ALL_PERCENT else rate)

-- a state with the counts of a report, gathered from this moment on
abbrev pub gathered : State → Counts → ℕ → State
gathered s report since =
    record s { received = s.received + report.received; missing = s.missing + report.missing; since = Some since }

-- The counts are judged, and gathering begins anew.
abbrev pub renewed : State → ℕ → State
renewed s now =
    record { estimate = judged s.estimate (s.received + s.missing) s.missing; received = 0; missing = 0; since = Some now }

-- the same state with another estimate
abbrev pub with_estimate : State → ℕ → State
with_estimate s rate = record s { estimate = rate }

-- a state with its estimate put in bounds
abbrev pub in_bounds : Bounds → State → State
in_bounds bounds s = with_estimate s (bounded bounds s.estimate)

-- the state with a report's counts, judged where that is due
abbrev pub judged_if_due : State → ℕ → ℕ → State
judged_if_due s since now = if is_due since now (s.received + s.missing) then renewed s now else s

-- the state after a report at this moment; the first one begins to gather
abbrev pub after : State → Counts → ℕ → Bounds → State
after s report now bounds =
    let since = unwrap_or s.since now in
    in_bounds bounds (judged_if_due (gathered s report since) since now)
