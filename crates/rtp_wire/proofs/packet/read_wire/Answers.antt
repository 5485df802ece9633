use Rattle.std.proofs.Common.{rules, ◌<◌, ◌^◌, sym, arith}
use Rattle.rtp_wire.proofs.ByChecks.{place_bounds, header_inside}
use Rattle.rtp_wire.proofs.packet.read_wire.Goals as goal

pub overflow_cast-result : goal.overflow_cast-result
overflow_cast-result c =
    let b = place_bounds c.args.id c.args.bytes.now c.in_ok-place.place c.requires.low c.requires.high (sym c.in_ok-place.ensures) in
    let small : c.in_ok-place.place < 2 ^ 32 = omega (arith, b.1, b.2) in
    search rules

pub invariant_of-result : goal.invariant_of-result
invariant_of-result c =
    let b = place_bounds c.args.id c.args.bytes.now c.in_ok-place.place c.requires.low c.requires.high (sym c.in_ok-place.ensures) in
    (omega (arith, b.0), b.1, header_inside c.args.id c.args.bytes.now c.in_ok-place.place c.requires.low c.requires.high (sym c.in_ok-place.ensures), b.2)
