use Rattle.std.proofs.Common.{◌≡◌, ◌+◌, ◌*◌, ◌≤◌, ◌++◌, map, take}
use Rattle.gcc_units.specs.declared.limits.TheConstants.{GREATEST_PACKET}
use Rattle.live_sender.specs.Held.{wire_from}
use Rattle.live_sender.proofs.stamping.stamp_records.Given as goal

abbrev pub invariant-loop-sent : goal.invariant-loop-sent
invariant-loop-sent l =
    (l.wires.items ≡ l.fn.wires.items ++ map (wire_from l.id l.packets) (take l.sent-index l.records))
    × (l.fn.wires.room ≤ l.wires.room + l.sent-index)
    × (l.fn.wires.byte_room ≤ l.wires.byte_room + GREATEST_PACKET * l.sent-index)
