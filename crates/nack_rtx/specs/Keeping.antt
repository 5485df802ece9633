-- What a resender holds, and the events that it stands for.
use Rattle.std.specs.Prelude.{◌≡◌, ℕ, ◌-◌, ◌<◌, List, length, sum, slice_index_or, Option, Some, None, nat_lt, if◌then◌else◌}
use Rattle.circular_buffer.specs.Buffer.{keep_last}
use Rattle.nack_rtx.specs.declared.TheConstants.{MOST_STORED}
use Rattle.nack_rtx.specs.Resending.{Event, Account, account, last_from}
use Rattle.nack_rtx.specs.Held.{Held}

pub record Keeps (h : Held) (a : Account) : Type 0 where
  pub packets : h.packets ≡ keep_last MOST_STORED a.packets
  pub counts : h.counts ≡ keep_last MOST_STORED a.resent
  pub each : length a.resent ≡ length a.packets
  pub places : (seq : ℕ) → seq < 65536 → slice_index_or h.places seq None ≡ last_from seq 0 a.packets
  pub kept : h.kept ≡ length a.packets
  pub resends : h.resends ≡ sum a.resent

-- The resender was given these packets and NACKs.
abbrev pub StandsFor : Held → List Event → Type 0
StandsFor h events = Keeps h (account h.settings events)

-- the same with other counts
abbrev pub with_counts : Held → List ℕ → ℕ → Held
with_counts h counts resends =
    record { settings = h.settings; packets = h.packets; counts = counts; places = h.places; kept = h.kept; resends = resends }

-- the place that is found for a sequence number, where it is not before the oldest that is held
abbrev pub not_before : ℕ → Option ℕ → Option ℕ
not_before first None = None
not_before first (Some place) = if nat_lt place first then None else Some place

abbrev pub found : Held → ℕ → Option ℕ
found h seq = not_before (h.kept - MOST_STORED) (slice_index_or h.places seq None)
