-- The rate in force: the pacing rate, or what drains the queue in time.
use Rattle.std.specs.Prelude.{ℕ, ◌+◌, ◌-◌, ◌*◌, ◌/◌, ◌==◌, if◌then◌else◌, min, max, Option, None, Some, List, [], ◌∷◌, length, sum_by}
use Rattle.std.specs.Int.{div_ceil}
use Rattle.gcc_units.specs.declared.limits.TheConstants.{GREATEST_RATE, BYTE}
use Rattle.pace_queues.specs.declared.ticket.Ticket.{Ticket}
use Rattle.pace_queues.specs.Waiting.{size_of}
use Rattle.pacer.specs.declared.force.TheConstants.{DRAIN_TIME, LEAST_DRAIN_TIME}

-- how long a packet has waited
abbrev pub age : ℕ → Ticket → ℕ
age moment t = moment - t.accepted_at

-- how long the packets have waited, on average
abbrev pub waited : ℕ → List Ticket → ℕ
waited moment waiting = sum_by (age moment) waiting / length waiting

-- a quotient, rounded up
abbrev pub ceiling : ℕ → ℕ → ℕ
ceiling a b = (a + (b - 1)) / b

-- the rate that sends all that waits before the average packet has waited for the drain time
abbrev pub drain : ℕ → List Ticket → ℕ
drain moment [] = 0
drain moment (t ∷ ts) = ceiling (BYTE * sum_by size_of (t ∷ ts)) (max LEAST_DRAIN_TIME (DRAIN_TIME - waited moment (t ∷ ts)))

-- the rate in force at a moment, with this pacing rate and these packets waiting
unfoldable pub in_force : ℕ → ℕ → List Ticket → ℕ
in_force pacing moment waiting = min GREATEST_RATE (max pacing (drain moment waiting))

-- the time in which a rate sends what waits, rounded up; none at no rate
abbrev pub sending_time : ℕ → List Ticket → Option ℕ
sending_time rate waiting = if rate == 0 then None else Some (div_ceil (BYTE * sum_by size_of waiting) rate)
