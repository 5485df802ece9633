use Rattle.std.proofs.Common.{◌≡◌, ◌<◌, ◌++◌, length}
use Rattle.std.specs.List.{AllByRecursion}
use Rattle.twcc_report.specs.Chunks.{chunk_bytes}
use Rattle.twcc_report.specs.Canonical.{chunks_for}
use Rattle.twcc_report.proofs.writing.push_chunks.Given as goal

-- what was put, and what the rest gives, is what all gives
abbrev pub invariant-loop-rest : goal.invariant-loop-rest
invariant-loop-rest l =
    (l.bytes.items ++ chunk_bytes (chunks_for l.rest) ≡ l.fn.bytes.items ++ chunk_bytes (chunks_for l.symbols)) × AllByRecursion (λ s. s < 3) l.rest

abbrev pub decreases-loop-rest : goal.decreases-loop-rest
decreases-loop-rest l = length l.rest
