use Rattle.std.proofs.Common.{◌≤◌, vec_len}
use Rattle.std.specs.Io.KnownBytes.{Consumes}
use Rattle.run_top.proofs.reading.read_all.Given as goal

abbrev pub invariant-loop-turn : goal.invariant-loop-turn
invariant-loop-turn g l =
    Consumes (g.S.Source.left l.fn.source) (g.S.Source.left l.source) l.bytes.items
    × (g.S.Source.faults l.fn.source ≤ g.S.Source.faults l.source)
    × (l.turn ≤ vec_len l.bytes)
    × (vec_len l.bytes ≤ l.most)
