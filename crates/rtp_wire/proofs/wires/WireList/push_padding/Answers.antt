use Rattle.std.proofs.Common.{◌≡◌, ◌+◌, ◌-◌, [], ◌∷◌, ◌++◌, length, ap, ◌∙◌, arith, rules, refl, length-append}
use Rattle.rtp_wire.specs.Wires.{Wires}
use Rattle.rtp_wire.specs.Stamp.{padding_packet}
use Rattle.rtp_wire.proofs.Pieces.{pushed_ends, pushed_pieces}
use Rattle.rtp_wire.proofs.wires.WireList.push_padding.Goals as goal

pub invariant_of-self : goal.invariant_of-self
invariant_of-self c =
    let old = c.self.inside.bytes.items in
    let packet = padding_packet c.args.low c.args.id in
    let at_end : c.len.result ≡ length c.put_padding.new.bytes.items = search rules in
    let longer : length c.put_padding.new.bytes.items ≡ length old + length packet = ap length c.put_padding.ensures.items ∙ length-append old packet in
    let size : length packet ≡ 256 = refl in
    let room_is : c.self.inside.room ≡ c.args.self.now.room = ap (λ (w : Wires). w.room) c.self.view_is in
    let byte_room_is : c.self.inside.byte_room ≡ c.args.self.now.byte_room = ap (λ (w : Wires). w.byte_room) c.self.view_is in
    record {
      ends = pushed_ends c.self.inside.ends.items old packet c.push_reserved.new.self.items c.put_padding.new.bytes.items
          c.self.invariant.ends c.put_padding.ensures.items
          (c.push_reserved.ensures.items ∙ ap (λ n. c.self.inside.ends.items ++ n ∷ []) at_end);
      room = omega arith;
      few = omega arith;
      byte_room = omega arith;
    }

pub returns : goal.returns
returns c =
    let at_end : c.len.result ≡ length c.put_padding.new.bytes.items = search rules in
    rw (← c.self.view_is)
    (pushed_pieces c.self.inside.ends.items c.self.inside.bytes.items (padding_packet c.args.low c.args.id) c.push_reserved.new.self.items c.put_padding.new.bytes.items
    (c.self.inside.room - 1) (c.self.inside.byte_room - 256) c.self.invariant.ends c.put_padding.ensures.items
    (c.push_reserved.ensures.items ∙ ap (λ n. c.self.inside.ends.items ++ n ∷ []) at_end))
