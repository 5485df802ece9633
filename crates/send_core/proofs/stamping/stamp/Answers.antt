use Rattle.std.proofs.Common.{◌≡◌, ◌-◌, ◌%◌, ◌≤◌, ◌++◌, [], ◌∷◌, length, ◌∙◌, ap, arith}
use Rattle.gcc_units.specs.declared.limits.TheConstants.{GREATEST_PACKET}
use Rattle.rtp_wire.specs.Stamp.{stamped}
use Rattle.rtp_wire.specs.Wires.{Wires}
use Rattle.send_core.specs.History.{accepted}
use Rattle.send_core.proofs.Stamped.{can_stamp, small, no_fault, is_stamped}
use Rattle.send_core.proofs.stamping.stamp.Goals as goal

pub push_stamped-requires-clause-bytes : goal.push_stamped-requires-clause-bytes
push_stamped-requires-clause-bytes c =
    let few : length c.packet.result.now ≤ GREATEST_PACKET = small c.args.id _ _ _ (can_stamp c.args.id (accepted c.args.journal.now.items) c.in-Some.index c.packet.result.now c.requires.readable c.packet.ensures) in
    let same : length c.in-Ok.wire.bytes ≡ length c.packet.result.now = ap length c.in-Ok.ensures.bytes in
    omega (arith, c.requires.byte_room)

pub unreachable-requires : goal.unreachable-requires
unreachable-requires c =
    no_fault c.args.id _ _ c.packet.result.now c.in-Err.field-0 (can_stamp c.args.id (accepted c.args.journal.now.items) c.in-Some.index c.packet.result.now c.requires.readable c.packet.ensures) c.in-Err.ensures.fault

pub returns-in-Ok-clause-wires : goal.returns-in-Ok-clause-wires
returns-in-Ok-clause-wires c =
    ap (λ (w : Wires). w.items) c.push_stamped.ensures
    ∙ ap (λ bytes. c.args.wires.now.items ++ bytes ∷ [])
    (ap (λ bytes. stamped bytes c.in-Ok.wire.place (c.args.sent.now.number % 65536)) c.in-Ok.ensures.bytes
    ∙ is_stamped c.args.id (accepted c.args.journal.now.items) c.in-Some.index c.packet.result.now c.in-Ok.wire.place (c.args.sent.now.number % 65536)
    (can_stamp c.args.id (accepted c.args.journal.now.items) c.in-Some.index c.packet.result.now c.requires.readable c.packet.ensures)
    c.in-Ok.ensures.place c.args.sent.now.index c.in-Some.is)

pub returns-in-Ok-clause-byte_room : goal.returns-in-Ok-clause-byte_room
returns-in-Ok-clause-byte_room c =
    let few : length c.packet.result.now ≤ GREATEST_PACKET = small c.args.id _ _ _ (can_stamp c.args.id (accepted c.args.journal.now.items) c.in-Some.index c.packet.result.now c.requires.readable c.packet.ensures) in
    let same : length c.in-Ok.wire.bytes ≡ length c.packet.result.now = ap length c.in-Ok.ensures.bytes in
    let left : c.push_stamped.new.self.byte_room ≡ c.args.wires.now.byte_room - length c.in-Ok.wire.bytes = ap (λ (w : Wires). w.byte_room) c.push_stamped.ensures in
    omega arith
