use Rattle.std.proofs.Common.{◌≡◌, ◌*◌, ◌≤◌, take, sum_by}
use Rattle.gcc_live.specs.Summing.{size_of}
use Rattle.gcc_live.proofs.made.bytes_of.Given as goal

abbrev pub invariant-loop-sent : goal.invariant-loop-sent
invariant-loop-sent l = (l.bytes ≡ sum_by size_of (take l.sent-index l.records)) × (l.bytes ≤ 4294967296 * l.sent-index)
