use Rattle.std.proofs.Common.{◌≡◌, ◌+◌, ◌-◌, [], ◌∷◌, ◌++◌, length, ap, ◌∙◌, arith, rules, length-append}
use Rattle.rtp_wire.specs.Wires.{Wires}
use Rattle.rtp_wire.specs.Stamp.{stamped}
use Rattle.rtp_wire.proofs.Pieces.{pushed_ends, pushed_pieces}
use Rattle.rtp_wire.proofs.Stamping.{length-stamped}
use Rattle.rtp_wire.proofs.wires.WireList.push_stamped.Goals as goal

pub invariant_of-self : goal.invariant_of-self
invariant_of-self c =
    let packet = c.bytes-packet.result.now in
    let old = c.self.inside.bytes.items in
    let stamp = stamped packet c.place.result c.args.low in
    let at_end : c.len.result ≡ length c.put_stamped.new.bytes.items = search rules in
    let longer : length c.put_stamped.new.bytes.items ≡ length old + length stamp = ap length c.put_stamped.ensures.items ∙ length-append old stamp in
    let same : length stamp ≡ length packet = length-stamped packet c.place.result c.args.low (search rules) in
    let room_is : c.self.inside.room ≡ c.args.self.now.room = ap (λ (w : Wires). w.room) c.self.view_is in
    let byte_room_is : c.self.inside.byte_room ≡ c.args.self.now.byte_room = ap (λ (w : Wires). w.byte_room) c.self.view_is in
    record {
      ends = pushed_ends c.self.inside.ends.items old stamp c.push_reserved.new.self.items c.put_stamped.new.bytes.items
          c.self.invariant.ends c.put_stamped.ensures.items
          (c.push_reserved.ensures.items ∙ ap (λ n. c.self.inside.ends.items ++ n ∷ []) at_end);
      room = omega arith;
      few = omega arith;
      byte_room = omega arith;
    }

pub returns : goal.returns
returns c =
    let at_end : c.len.result ≡ length c.put_stamped.new.bytes.items = search rules in
    rw (← c.self.view_is, ← c.bytes-packet.ensures, ← c.place.ensures.place)
    (pushed_pieces c.self.inside.ends.items c.self.inside.bytes.items (stamped c.bytes-packet.result.now c.place.result c.args.low) c.push_reserved.new.self.items c.put_stamped.new.bytes.items
    (c.self.inside.room - 1) (c.self.inside.byte_room - length c.bytes-packet.result.now) c.self.invariant.ends c.put_stamped.ensures.items
    (c.push_reserved.ensures.items ∙ ap (λ n. c.self.inside.ends.items ++ n ∷ []) at_end))
