use Rattle.std.proofs.Common.{arith}
use Rattle.rtp_wire.proofs.wires.WireList.reserve.Goals as goal

pub invariant_of-self-2 : goal.invariant_of-self-2
invariant_of-self-2 c = record {
  ends = rw (c.reserve.ensures.items, c.reserve-2.ensures.items) c.self.invariant.ends;
  room = omega (arith, c.in_ok-reserve.ensures.ok);
  few = omega arith;
  byte_room = omega (arith, c.in_ok-reserve-2.ensures.ok);
}
