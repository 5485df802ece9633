-- Packets in a row that a run of lost statuses names.
use Rattle.std.specs.Prelude.{◌≡◌, ℕ, ◌+◌, ◌-◌, ◌%◌, ◌<◌, ◌≤◌, true, false, List, Option, Some, None, MatchOption}
use Rattle.gcc_units.specs.Unwrapping.{named_number}
use Rattle.gcc_units.specs.declared.shared_types.Judged.{Judged}
use Rattle.sent_history.specs.declared.lost.Stretch.{Stretch}
use Rattle.sent_history.specs.declared.slot.Slot.{Slot}
use Rattle.sent_history.specs.Fresh.{fresh_in}

-- Each of so many low numbers names a packet that is no longer kept, or none.
abbrev pub AllUnknown : ℕ → ℕ → ℕ → ℕ → Type 0
AllUnknown sent kept low count = (i n : ℕ) → i < count → named_number sent ((low + i) % 65536) ≡ Some n → n + kept < sent

-- They name the packets of the slots from a place on.
pub record AllKept (sent kept low count place : ℕ) : Type 0 where
  pub inside : place + count ≤ kept
  pub named : (i : ℕ) → i < count → named_number sent ((low + i) % 65536) ≡ Some (sent - kept + (place + i))

pub record IsStretch (sent kept low left : ℕ) (stretch : Stretch) : Type 0 where
  pub some : 1 ≤ stretch.count
  pub few : stretch.count ≤ left
  pub what : MatchOption stretch.place (AllUnknown sent kept low stretch.count) (AllKept sent kept low stretch.count)

-- the answer with the verdicts on a stretch
abbrev pub with_stretch : List Slot → Judged → Option ℕ → ℕ → Judged
with_stretch slots j None count = record j { unknown = j.unknown + count }
with_stretch slots j (Some place) count =
    record j { missing = j.missing + fresh_in slots place count; repeated = j.repeated + (count - fresh_in slots place count) }

-- ---- marks

abbrev pub missed : Slot → Slot
missed s = record { packet = s.packet; credited = s.credited; missed = true }

-- The slots say the same. Once one is credited, nothing asks whether it was missed.
pub record Agrees (s t : Slot) : Type 0 where
  pub packet : s.packet ≡ t.packet
  pub credited : s.credited ≡ t.credited
  pub missed : t.credited ≡ false → s.missed ≡ t.missed
