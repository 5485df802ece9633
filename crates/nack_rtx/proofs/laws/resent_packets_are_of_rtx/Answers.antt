use Rattle.std.proofs.Common.{◌≡◌, ℕ, ◌^◌, ◌<◌, ◌≤◌, List, [], ◌∷◌, length, arith}
use Rattle.rtp_wire.specs.Place.{field32}
use Rattle.nack_rtx.specs.Packets.{resent_packet}
use Rattle.nack_rtx.proofs.laws.resent_packets_are_of_rtx.Goals as goal

ssrc_at : (payload seq ssrc : ℕ) (packet : List ℕ) → 12 ≤ length packet → ssrc < 2 ^ 32 → field32 8 (resent_packet payload seq ssrc packet) ≡ ssrc
ssrc_at payload seq ssrc [] le small = absurd (omega (arith, le))
ssrc_at payload seq ssrc (a ∷ []) le small = absurd (omega (arith, le))
ssrc_at payload seq ssrc (a ∷ b ∷ []) le small = absurd (omega (arith, le))
ssrc_at payload seq ssrc (a ∷ b ∷ c ∷ []) le small = absurd (omega (arith, le))
ssrc_at payload seq ssrc (a ∷ b ∷ c ∷ d ∷ []) le small = absurd (omega (arith, le))
ssrc_at payload seq ssrc (a ∷ b ∷ c ∷ d ∷ e ∷ []) le small = absurd (omega (arith, le))
ssrc_at payload seq ssrc (a ∷ b ∷ c ∷ d ∷ e ∷ f ∷ []) le small = absurd (omega (arith, le))
ssrc_at payload seq ssrc (a ∷ b ∷ c ∷ d ∷ e ∷ f ∷ g ∷ []) le small = absurd (omega (arith, le))
ssrc_at payload seq ssrc (a ∷ b ∷ c ∷ d ∷ e ∷ f ∷ g ∷ h ∷ []) le small = absurd (omega (arith, le))
ssrc_at payload seq ssrc (a ∷ b ∷ c ∷ d ∷ e ∷ f ∷ g ∷ h ∷ i ∷ []) le small = absurd (omega (arith, le))
ssrc_at payload seq ssrc (a ∷ b ∷ c ∷ d ∷ e ∷ f ∷ g ∷ h ∷ i ∷ j ∷ []) le small = absurd (omega (arith, le))
ssrc_at payload seq ssrc (a ∷ b ∷ c ∷ d ∷ e ∷ f ∷ g ∷ h ∷ i ∷ j ∷ k ∷ []) le small = absurd (omega (arith, le))
ssrc_at payload seq ssrc (a ∷ b ∷ c ∷ d ∷ e ∷ f ∷ g ∷ h ∷ i ∷ j ∷ k ∷ l ∷ rest) le small = omega (arith, small)

pub returns : goal.returns
returns c = λ payload seq ssrc packet le small. ssrc_at payload seq ssrc packet le small
