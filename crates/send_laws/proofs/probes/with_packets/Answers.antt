use Rattle.std.proofs.lemmas.Option.{slice_get-get_or}
use Rattle.send_laws.proofs.Finding.{finds-more}
use Rattle.send_laws.proofs.probes.with_packets.Goals as goal

pub loop-packet-preserved : goal.loop-packet-preserved
loop-packet-preserved c =
    finds-more c.args.id c.args.moment c.args.packets.now c.args.so_far c.loop-packet.sends c.with_packet-sends.result c.loop-packet.packet-index _
    (slice_get-get_or c.args.packets.now c.loop-packet.packet-index _ c.loop-packet-test.true) c.loop-packet.invariant c.with_packet-sends.ensures.sends c.with_packet-sends.ensures.few
