use Rattle.std.proofs.Common.{◌+◌, ◌*◌, ◌^◌, ◌≤◌, ◌++◌, List, take}
use Rattle.pacer.specs.declared.sent.Sent.{Sent}
use Rattle.send_laws.specs.Budgets.{IsCount}
use Rattle.send_laws.proofs.budget.Budget.with_packets.Given as goal

abbrev pub invariant-loop-packet : goal.invariant-loop-packet
invariant-loop-packet l = record {
  counts : (records : List Sent) → IsCount l.self records l.fn.so_far → IsCount l.self (records ++ take l.packet-index l.packets) l.counted;
  little : l.counted.bytes + l.counted.since ≤ l.fn.so_far.bytes + l.fn.so_far.since + 2 ^ 32 * l.packet-index;
}
