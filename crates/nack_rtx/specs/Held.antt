-- What contracts see of a resender.
use Rattle.std.specs.Prelude.{ℕ, List, Option}
use Rattle.nack_rtx.specs.declared.resender.RtxSettings.{RtxSettings}

-- the newest packets and how often each was sent again, for each sequence number the place of the last packet, how many packets were
-- kept, and how often any was sent again
pub record Held : Type 0 where
  pub settings : RtxSettings
  pub packets : List (List ℕ)
  pub counts : List ℕ
  pub places : List (Option ℕ)
  pub kept : ℕ
  pub resends : ℕ
