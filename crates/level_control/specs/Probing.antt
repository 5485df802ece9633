-- What the results of probes change, and which cluster is asked for.
use Rattle.std.specs.Prelude.{ℕ, ◌≤◌, ◌-◌, ◌*◌, ◌^◌, min, max, Bool, not, ◌&&◌, nat_lt, nat_le, if◌then◌else◌, List, fold, Option, Some, None, is_some, is_none, unwrap_or}
use Rattle.gcc_units.specs.declared.shared_types.Bounds.{Bounds}
use Rattle.gcc_units.specs.declared.limits.TheConstants.{GREATEST_RATE}
use Rattle.gcc_units.specs.Rates.{bounded}
use Rattle.level_control.specs.declared.state.Probed.{Probed}
use Rattle.level_control.specs.declared.state.State.{State}
use Rattle.level_control.specs.declared.probing.Taken.{Taken}
use Rattle.level_control.specs.declared.probing.Asked.{Asked}
use Rattle.level_control.specs.declared.growth.TheConstants.{ALL_PERCENT}
use Rattle.level_control.specs.declared.probing.TheConstants.{PASSED_PERCENT, NEXT_TIMES, PAUSE, FIRST_PAUSE, ABOVE_PERCENT}
use Rattle.level_control.specs.Growth.{is_far}

-- The estimate is raised to a result. Where most of the planned rate came through, a next cluster goes higher.
abbrev pub with_result : Bounds → Taken → Probed → Taken
with_result bounds t p =
    record {
      rate = bounded bounds (max t.rate p.result);
      next = if nat_le (PASSED_PERCENT * p.planned) (ALL_PERCENT * p.result) then Some (NEXT_TIMES * p.result) else t.next;
    }

-- after all results; in a drain they say nothing
abbrev pub results_of : State → List Probed → Bounds → Taken
results_of s results bounds =
    if is_some s.drain then record { rate = s.rate; next = None }
    else fold (with_result bounds) (record { rate = s.rate; next = None }) results

-- the pause before a cluster that no result led to
abbrev pub pause : Option ℕ → ℕ
pause None = FIRST_PAUSE
pause (Some known) = PAUSE

-- It is over.
abbrev pub is_paused : State → ℕ → Bool
is_paused s now = nat_le (unwrap_or s.probed now) now && nat_le (pause s.capacity) (now - unwrap_or s.probed now)

-- the next rate: that of a result, and else after a pause twice the rate, far from the capacity
abbrev pub wanted : State → Option ℕ → ℕ → Option ℕ
wanted s next now =
    if is_none next && is_paused s now && is_far s.rate s.capacity then Some (NEXT_TIMES * s.rate) else next

-- no drain, none that waits, and a rate that tells something new
abbrev pub may_ask : State → Bool → ℕ → Bool
may_ask s waits rate = is_none s.drain && not waits && nat_lt (ABOVE_PERCENT * s.rate) (ALL_PERCENT * rate)

-- the rate of the cluster that is asked for, at most the greatest of the bounds
abbrev pub planned : State → Option ℕ → Bool → Bounds → Option ℕ
planned s None waits bounds = None
planned s (Some rate) waits bounds = if may_ask s waits (min rate bounds.max) then Some (min rate bounds.max) else None

abbrev pub asked_by : State → Option ℕ → ℕ → Asked
asked_by s cluster now =
    record { state = record s { probed = if is_some cluster then Some now else s.probed }; cluster = cluster }

abbrev pub asked_at : State → Option ℕ → Bool → ℕ → Bounds → Asked
asked_at s next waits now bounds = asked_by s (planned s (wanted s next now) waits bounds) now

-- the state after the results of a report, and the cluster that is asked for
abbrev pub probed : State → List Probed → Bool → ℕ → Bounds → Asked
probed s results waits now bounds =
    let t = results_of s results bounds in
    asked_at (record s { rate = t.rate }) t.next waits now bounds

-- rates that a cluster may have
pub record IsProbed (p : Probed) : Type 0 where
  pub planned : p.planned ≤ GREATEST_RATE
  pub result : p.result ≤ 2 ^ 50
