use Rattle.std.proofs.Common.{◌≡◌, ◌+◌, take, vec_len}
use Rattle.std.specs.Vec.{vec_capacity}
use Rattle.gcc_units.proofs.sequence.Sequence.copy.Given as goal

abbrev pub invariant-loop-item : goal.invariant-loop-item
invariant-loop-item g l =
    (l.held.items ≡ take l.item-index l.item-items) × (vec_len l.held ≡ l.item-index)
    × (vec_capacity l.held ≡ vec_len l.self-inside.held + l.self-inside.room) × (l.item-items ≡ l.self-inside.held.items)
