-- Which numbers are sent again, in words that no step of the code has.
use Rattle.std.specs.Prelude.{◌≡◌, ◌≢◌, ℕ, ◌+◌, ◌<◌, ◌≤◌, List, [], length, slice_index, slice_index_or, Some}
use Rattle.rtp_wire.specs.Place.{field16}
use Rattle.nack_rtx.specs.declared.TheConstants.{MOST_STORED}
use Rattle.nack_rtx.specs.declared.resender.RtxSettings.{RtxSettings}
use Rattle.nack_rtx.specs.declared.resender.Resend.{Resend}
use Rattle.nack_rtx.specs.declared.resender.Verdict.TheVariants.{Again}
use Rattle.nack_rtx.specs.Resending.{Account, stored, verdict}

-- The packet at this place is one of the newest and has the sequence number, and no later one has it.
pub record IsNewestWith (packets : List (List ℕ)) (seq place : ℕ) : Type 0 where
  pub inside : place < length packets
  pub newest : length packets ≤ place + MOST_STORED
  pub number : field16 2 (slice_index_or packets place []) ≡ seq
  pub last : (later : ℕ) → place < later → later < length packets → field16 2 (slice_index_or packets later []) ≢ seq

-- The packet at this place is sent again for the number.
abbrev pub IsAgainAt : RtxSettings → ℕ → Account → ℕ → ℕ → Type 0
IsAgainAt s media a seq place = (times : ℕ) × (resend : Resend) × (verdict s media a seq ≡ Again place times resend)

pub record IsYielded (s : RtxSettings) (media : ℕ) (a : Account) (seq place : ℕ) : Type 0 where
  pub for_media : media ≡ s.media
  pub is_stored : stored a.packets seq ≡ Some place
  pub unspent : slice_index a.resent place < s.repeats
