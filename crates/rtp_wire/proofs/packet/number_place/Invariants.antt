use Rattle.std.proofs.Common.{◌≡◌, ◌+◌, length}
use Rattle.rtp_wire.specs.Place.{walk}
use Rattle.rtp_wire.proofs.packet.number_place.Given as goal

-- the walk from here is the walk over all
abbrev pub invariant-loop-rest : goal.invariant-loop-rest
invariant-loop-rest l =
    (walk l.id l.at 0 l.rest ≡ walk l.id l.start 0 l.extension) × (l.at + length l.rest ≡ l.start + length l.extension)

abbrev pub decreases-loop-rest : goal.decreases-loop-rest
decreases-loop-rest l = length l.rest
