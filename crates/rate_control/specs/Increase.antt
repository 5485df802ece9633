-- How an estimate is raised. Rates are bit/s, times microseconds.
use Rattle.std.specs.Prelude.{ℕ, ◌+◌, ◌*◌, ◌/◌, min, max, Bool, Option, Some, None, if◌then◌else◌}
use Rattle.std.specs.Int.{div_ceil}
use Rattle.rate_control.specs.declared.increase.TheConstants.{FRAMES, PACKET_BITS, RESPONSE_TIME, LEAST_ADDED, GROWTH_PERCENT, PERCENT_SECOND, LIMIT_HALVES}

-- by a part for each second
abbrev pub multiplied : ℕ → ℕ → ℕ
multiplied rate dt = rate + GROWTH_PERCENT * rate * dt / PERCENT_SECOND

-- the bits of one of the frames of a second
abbrev pub frame_bits : ℕ → ℕ
frame_bits rate = rate / FRAMES

-- the bits of each packet of such a frame, which is cut into as few as hold it
abbrev pub packet_bits : ℕ → ℕ
packet_bits rate = frame_bits rate / max 1 (div_ceil (frame_bits rate) PACKET_BITS)

-- how long a change takes to show
abbrev pub response : ℕ → ℕ
response rtt = RESPONSE_TIME + rtt

-- by half a packet for each response time, of which at most one counts, and by no less than the least
abbrev pub added : ℕ → ℕ → ℕ → ℕ
added rate rtt dt = rate + max LEAST_ADDED (packet_bits rate * min dt (response rtt) / (2 * response rtt))

-- near the known capacity by adding, else by multiplying
abbrev pub raised : Bool → ℕ → ℕ → ℕ → ℕ
raised near rate rtt dt = if near then added rate rtt dt else multiplied rate dt

-- An increase ends at one and a half of the received rate, and never lowers.
abbrev pub limited : ℕ → ℕ → Option ℕ → ℕ
limited rate next None = next
limited rate next (Some received) = max rate (min next (LIMIT_HALVES * received / 2))
