-- How many records a pace may have, before it is known which packets leave.
use Rattle.std.specs.Prelude.{ℕ, ◌==◌, ◌&&◌, min, Bool, if◌then◌else◌, length, count_by}
use Rattle.gcc_units.specs.declared.limits.TheConstants.{MOST_SENDS}
use Rattle.probe_clusters.specs.Cluster.{waits}
use Rattle.send_core.specs.declared.call.Call.{Call}
use Rattle.send_core.specs.declared.call.Call.TheVariants.{Enqueue, Pace, Report, Configure}
use Rattle.send_core.specs.declared.parts.Parts.{Parts}

-- no cluster waits and no padding is asked for, so that only what waits may leave
abbrev pub is_quiet : Parts → Bool
is_quiet p = (count_by waits p.clusters.items == 0) && (p.pacer.pacing.padding_rate == 0)

-- the most records that a pace may have
abbrev pub most_paced : Parts → ℕ
most_paced p = if is_quiet p then min MOST_SENDS (length p.pacer.waiting) else MOST_SENDS

-- the most records that a reply to the call may have
abbrev pub most_sends : Parts → Call → ℕ
most_sends p (Enqueue at class wire) = 0
most_sends p (Pace at) = most_paced p
most_sends p (Report at bytes) = 0
most_sends p (Configure at change) = 0
