use Rattle.std.proofs.Common.{◌≡◌, ◌+◌, ◌++◌, take}
use Rattle.gcc_units.proofs.sequence.Sequence.fill.Given as goal

abbrev pub invariant-loop-item : goal.invariant-loop-item
invariant-loop-item g l =
    (l.other.items ≡ l.fn.other.items ++ take l.item-index l.item-items) × (l.other.spare + l.item-index ≡ l.fn.other.spare)
    × (l.item-items ≡ l.self.items)
