use Rattle.std.proofs.Common.{◌≡◌, ◌+◌, ◌*◌, ◌≤◌, ◌++◌, map, take}
use Rattle.gcc_units.specs.declared.limits.TheConstants.{GREATEST_PACKET}
use Rattle.send_core.specs.History.{accepted}
use Rattle.send_core.specs.Wires.{wire_of}
use Rattle.send_core.proofs.stamping.stamp_records.Given as goal

abbrev pub invariant-loop-sent : goal.invariant-loop-sent
invariant-loop-sent l =
    (l.wires.items ≡ l.fn.wires.items ++ map (wire_of l.id (accepted l.journal.items)) (take l.sent-index l.records))
    × (l.fn.wires.room ≤ l.wires.room + l.sent-index)
    × (l.fn.wires.byte_room ≤ l.wires.byte_room + GREATEST_PACKET * l.sent-index)
