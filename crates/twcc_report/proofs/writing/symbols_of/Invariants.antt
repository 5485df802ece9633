use Rattle.std.proofs.Common.{◌≡◌, length, map, take, vec_capacity}
use Rattle.twcc_report.specs.Spelling.{symbol}
use Rattle.twcc_report.proofs.writing.symbols_of.Given as goal

-- the symbols so far, with room for the rest
abbrev pub invariant-loop-status : goal.invariant-loop-status
invariant-loop-status l = (l.symbols.items ≡ map symbol (take l.status-index l.statuses)) × (vec_capacity l.symbols ≡ length l.statuses)
