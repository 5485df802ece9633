use Rattle.send_laws.proofs.Finding.{FindsSends}
use Rattle.send_laws.proofs.probes.with_packets.Given as goal

abbrev pub invariant-loop-packet : goal.invariant-loop-packet
invariant-loop-packet l = FindsSends l.id l.moment l.packets l.fn.so_far l.sends l.packet-index
