-- The line: a packet waits in a queue that drops what does not fit, until the line is free.
use Rattle.std.specs.Prelude.{◌≡◌, ℕ, ◌+◌, ◌-◌, ◌*◌, ◌/◌, ◌^◌, ◌<◌, ◌≤◌, max, Bool, nat_lt, nat_le, if◌then◌else◌, Option, Some, None, List, [], ◌∷◌, ◌++◌, sum_by}
use Rattle.std.specs.Int.{div_ceil}
use Rattle.gcc_units.specs.declared.limits.TheConstants.{BYTE}
use Rattle.live_loop.specs.declared.plan.TheConstants.{LEAST_LINE_RATE, GREATEST_LINE_RATE}
use Rattle.live_loop.specs.declared.line.Packet.{Packet}
use Rattle.live_loop.specs.declared.line.Begun.{Begun}

-- what is kept: the rate, the bytes of the queue, from when on the line is free, and the packets that wait
pub record KeptLine : Type 0 where
  pub rate : ℕ
  pub queue : ℕ
  pub free : ℕ
  pub waiting : List Packet

abbrev pub size_of : Packet → ℕ
size_of p = p.size

abbrev pub bytes_of : List Packet → ℕ
bytes_of packets = sum_by size_of packets

pub record IsKeptLine (rate queue free held : ℕ) (waiting : List Packet) : Type 0 where
  pub least : LEAST_LINE_RATE ≤ rate
  pub greatest : rate ≤ GREATEST_LINE_RATE
  pub few : queue < 2 ^ 31
  pub soon : free < 2 ^ 51
  pub bytes : held ≡ bytes_of waiting
  pub fits : held ≤ queue

-- the bytes that the line still has to send: the rest of the packet that it sends, and those that wait
abbrev pub left : KeptLine → ℕ → ℕ
left l now = l.rate * (l.free - now) / BYTE + bytes_of l.waiting

-- a packet is dropped where these and its own are more than the queue
abbrev pub is_full : KeptLine → Packet → Bool
is_full l p = nat_lt l.queue (left l p.moment + p.size)

abbrev pub offered : KeptLine → Packet → KeptLine
offered l p = if is_full l p then l else record l { waiting = l.waiting ++ p ∷ [] }

-- when the sending of a packet begins
abbrev pub start : KeptLine → Packet → ℕ
start l p = max l.free p.moment

-- when it is sent: it takes its own time on the line, in whole microseconds, rounded up
abbrev pub sent_by : KeptLine → Packet → ℕ
sent_by l p = start l p + div_ceil (BYTE * p.size) l.rate

abbrev pub begun_first : KeptLine → ℕ → List Packet → Option Begun
begun_first l now [] = None
begun_first l now (p ∷ later) = if nat_le (start l p) now then Some (record { packet = p; start = start l p; sent = sent_by l p }) else None

-- the first of those that wait, where its sending begins by a moment
abbrev pub begun : KeptLine → ℕ → Option Begun
begun l now = begun_first l now l.waiting
