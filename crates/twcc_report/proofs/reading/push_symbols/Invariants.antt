use Rattle.std.proofs.Common.{◌≡◌, ◌++◌, map, vec_capacity}
use Rattle.std.specs.List.{range_with_len}
use Rattle.twcc_report.specs.Chunks.{symbol_at}
use Rattle.twcc_report.proofs.reading.push_symbols.Given as goal

-- the first symbols stand behind what stood there
abbrev pub invariant-loop-k : goal.invariant-loop-k
invariant-loop-k l =
    (l.symbols.items ≡ l.fn.symbols.items ++ map (symbol_at l.word) (range_with_len 0 l.k)) × (vec_capacity l.symbols ≡ vec_capacity l.fn.symbols)
