-- An accepted packet can be read again, and stamped.
use Rattle.std.proofs.Common.{◌≡◌, ℕ, suc, zero, ◌≤◌, Option, Some, Ok, Err, List, [], ◌∷◌, length, map, slice_get, All, refl, sym, ◌∙◌, ap, arith}
use Rattle.std.proofs.lemmas.List.Elements.{All-head, All-tail}
use Rattle.gcc_units.specs.declared.limits.TheConstants.{GREATEST_PACKET}
use Rattle.rtp_wire.specs.declared.packet.WireFault.{WireFault}
use Rattle.rtp_wire.specs.Place.{place_of}
use Rattle.rtp_wire.specs.Stamp.{stamped}
use Rattle.send_core.specs.History.{AcceptedPacket, wire_in}
use Rattle.send_core.specs.Stands.{IsReadable}
use Rattle.send_core.specs.Wires.{stamped_at, stamped_packet, wire_under}

pub record CanStamp (id : ℕ) (ps : List AcceptedPacket) (k : ℕ) (bytes : List ℕ) : Type 0 where
  pub packet : AcceptedPacket
  pub is_packet : slice_get ps k ≡ Some packet
  pub wire : packet.wire ≡ bytes
  pub readable : IsReadable id packet

pub can_stamp : (id : ℕ) (ps : List AcceptedPacket) (k : ℕ) (bytes : List ℕ) → All (IsReadable id) ps → slice_get (map wire_in ps) k ≡ Some bytes → CanStamp id ps k bytes
can_stamp id [] k bytes all is = absurd cc
can_stamp id (p ∷ ps) zero bytes all is =
    let same : p.wire ≡ bytes = cc in
    record { packet = p; is_packet = refl; wire = same; readable = All-head (IsReadable id) p ps all }
can_stamp id (p ∷ ps) (suc k) bytes all is =
    let c : CanStamp id ps k bytes = can_stamp id ps k bytes (All-tail (IsReadable id) p ps all) is in
    record { packet = c.packet; is_packet = c.is_packet; wire = c.wire; readable = c.readable }

pub small : (id : ℕ) (ps : List AcceptedPacket) (k : ℕ) (bytes : List ℕ) → CanStamp id ps k bytes → length bytes ≤ GREATEST_PACKET
small id ps k bytes c =
    let same : length c.packet.wire ≡ length bytes = ap length c.wire in
    let is_small : length c.packet.wire ≤ GREATEST_PACKET = c.readable.small in
    omega arith

pub no_fault : (id : ℕ) (ps : List AcceptedPacket) (k : ℕ) (bytes : List ℕ) (fault : WireFault) → CanStamp id ps k bytes → place_of id bytes ≡ Err fault → ⊥
no_fault id ps k bytes fault c is =
    let both : Ok c.readable.place ≡ Err fault = sym c.readable.is_place ∙ (ap (place_of id) c.wire ∙ is) in
    absurd cc

pub is_stamped : (id : ℕ) (ps : List AcceptedPacket) (k : ℕ) (bytes : List ℕ) (place low : ℕ) → CanStamp id ps k bytes → place_of id bytes ≡ Ok place
    → (index : Option ℕ) → index ≡ Some k → stamped bytes place low ≡ wire_under id ps low index
is_stamped id ps k bytes place low c is index named =
    sym (ap (wire_under id ps low) named
    ∙ (ap (stamped_packet id low) c.is_packet
    ∙ (ap (λ wire. stamped_at wire low (place_of id wire)) c.wire
    ∙ ap (stamped_at bytes low) is)))
