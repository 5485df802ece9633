-- What contracts see of a packet that was read.
use Rattle.std.specs.Prelude.{ℕ, List}

-- its bytes, and the place of the two bytes of its transport-wide sequence number
pub record Packet : Type 0 where
  pub bytes : List ℕ
  pub place : ℕ
