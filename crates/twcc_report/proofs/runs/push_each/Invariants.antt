use Rattle.std.proofs.Common.{◌≡◌, ◌++◌, map}
use Rattle.std.specs.List.{range_with_len}
use Rattle.twcc_report.specs.Chunks.{symbol_at}
use Rattle.twcc_report.specs.Runs.{all_symbols_of}
use Rattle.twcc_report.proofs.runs.push_each.Given as goal

-- the first symbols stand behind what stood there
abbrev pub invariant-loop-k : goal.invariant-loop-k
invariant-loop-k l = all_symbols_of l.runs.items ≡ all_symbols_of l.fn.runs.items ++ map (symbol_at l.word) (range_with_len 0 l.k)
