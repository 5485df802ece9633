-- What a history keeps, and the packets and reports that it stands for.
use Rattle.std.specs.Prelude.{◌≡◌, ℕ, ℤ, ◌+◌, ◌-◌, ◌<◌, ◌≤◌, false, List, length, min, slice_get, slice_index_or, Some}
use Rattle.gcc_units.specs.declared.limits.TheConstants.{KEPT_PACKETS, MOST_PACKETS, MOST_REPORTS}
use Rattle.sent_history.specs.declared.slot.Slot.{Slot}
use Rattle.sent_history.specs.Events.{Event, packets, reports, last_sent_at}
use Rattle.sent_history.specs.Crediting.{Account, account, has}

-- how many packets were sent, the last of them, and the last reference
pub record Kept : Type 0 where
  pub sent : ℕ
  pub slots : List Slot
  pub reference : ℤ

-- The slot tells of packet n. Once it is credited, no later report asks whether it was missed.
pub record IsSlot (a : Account) (n : ℕ) (s : Slot) : Type 0 where
  pub packet : slice_get a.packets n ≡ Some s.packet
  pub credited : s.credited ≡ has a.credited n
  pub missed : s.credited ≡ false → s.missed ≡ has a.missed n

pub record Keeps (h : Kept) (a : Account) : Type 0 where
  pub sent : h.sent ≡ length a.packets
  pub window : length h.slots ≡ min KEPT_PACKETS (length a.packets)
  pub slots : (k : ℕ) (d : Slot) → k < length h.slots → IsSlot a (length a.packets - length h.slots + k) (slice_index_or h.slots k d)
  pub reference : h.reference ≡ a.reference

-- The history was given these packets and reports.
abbrev pub StandsFor : Kept → List Event → Type 0
StandsFor h events = Keeps h (account events)

-- ---- what it may be given next

-- It was given fewer packets than the most, and no more reports.
abbrev pub TakesPacket : Kept → Type 0
TakesPacket h =
    (events : List Event) × StandsFor h events × (length (packets events) < MOST_PACKETS) × (length (reports events) ≤ MOST_REPORTS)

-- It was given fewer reports than the most, and no more packets.
abbrev pub TakesReport : Kept → Type 0
TakesReport h =
    (events : List Event) × StandsFor h events × (length (packets events) ≤ MOST_PACKETS) × (length (reports events) < MOST_REPORTS)

-- The last packet was sent no later than this.
abbrev pub IsSentBy : Kept → ℕ → Type 0
IsSentBy h moment = (events : List Event) × StandsFor h events × (last_sent_at events ≤ moment)
