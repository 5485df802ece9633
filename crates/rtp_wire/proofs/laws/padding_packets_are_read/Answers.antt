use Rattle.std.proofs.Common.{◌≡◌, ℕ, ◌+◌, ◌*◌, ◌≤◌, Ok, [], ◌∷◌, ◌++◌, refl, arith}
use Rattle.std.specs.Int.{w16, to_be_bytes}
use Rattle.rtp_wire.specs.Place.{place_of}
use Rattle.rtp_wire.specs.Stamp.{padding_packet}
use Rattle.rtp_wire.proofs.Walking.{is_there}
use Rattle.rtp_wire.proofs.laws.padding_packets_are_read.Goals as goal

padding_place : (low id : ℕ) → 1 ≤ id → id ≤ 14 → place_of id (padding_packet low id) ≡ Ok 17
unfolding place_of
padding_place low id some few = is_there id 16 ((16 * id + 1) ∷ (to_be_bytes w16 low ++ 0 ∷ [])) (omega arith) (omega arith) (omega arith) (omega arith) refl

pub returns-clause-place : goal.returns-clause-place
returns-clause-place c = padding_place
